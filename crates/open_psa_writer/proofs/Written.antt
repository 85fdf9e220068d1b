-- The text of a tree may stand, and it is true exactly where the tree is.
use Rattle.std.proofs.Common.{ℕ, zero, suc, ◌-◌, ◌≡◌, ◌<◌, ◌≤◌, ◌^◌, ◌↔◌, ◌==◌, ◌||◌, not, Bool, true, false, if◌then◌else◌, List, [], ◌∷◌, length, map, filter, take, drop, slice_get, slice_index_or, Some, codes, decimal, Contains, inl, inr, ⊎_elim, ap, ◌∙◌, sym, subst, refl, arith}
use lib.ListN.{length-map}
use Rattle.std.specs.List.{AllByRecursion, concat}
use Rattle.std.proofs.lemmas.Bool.{false≢true}
use Rattle.std.proofs.lemmas.Option.{slice_get_within}
use Rattle.std.proofs.lemmas.List.Elements.{All-get_or}
use Rattle.aadl_syntax.specs.Form.{One, Joined, Perhaps, Either, Repeated, Digits, IsExponent, IsFraction, IsNumber, Byte, is_digit, is_hexadecimal}
use Rattle.fault_system.specs.Truth.{NumberSet}
use Rattle.fault_system.specs.Systems.{System, IsSystem, Holds}
use Rattle.fault_system.proofs.Elements.{In, In-append, In-contains, In-filter}
use Rattle.property_reader.specs.Rates.{conservative_rate}
use Rattle.property_reader.specs.declared.rate.Rate.{Rate}
use Rattle.round_gates.specs.declared.node.GateKind.{GateKind}
use Rattle.round_gates.specs.declared.node.GateKind.TheVariants as kinds
use Rattle.round_gates.specs.declared.tree.Gate.{Gate}
use Rattle.round_gates.specs.declared.tree.Input.{Input}
use Rattle.round_gates.specs.declared.tree.Input.TheVariants as inputs
use Rattle.round_gates.specs.declared.tree.Tree.{Tree}
use Rattle.round_gates.specs.Targets.{IsTreeFor}
use Rattle.round_gates.specs.inner.Targets.{IsWithin, MayHave}
use Rattle.round_gates.specs.inner.Trees.{TreeHolds}
use Rattle.round_gates.proofs.TreeTruth.{tree-truth}
use Rattle.galileo_writer.specs.TreeText.{names_of}
use Rattle.galileo_writer.specs.inner.TreeText.{AreRates}
use Rattle.galileo_writer.proofs.Bytes.{decimal-lacks}
use Rattle.open_psa_writer.specs.Mef.{Choice, Figures, Digit, IsMefOf, IsPlainEvent, IsPlainFormula, IsPlainGate, IsPlainInput, IsPlainKind, IsPlainNumber, Mef, MefInput, Number, Over}
use Rattle.open_psa_writer.specs.Numbers.{base_len, digit_of, digits_behind, number_of, plain}
use Rattle.open_psa_writer.specs.Truth.{MefTrue, Tells}
use Rattle.open_psa_writer.specs.inner.TreeMef.{IsMefGate, IsMefTree}
use Rattle.open_psa_writer.specs.TreeMef.{gate_number, is_spread, mef_event, mef_text, numbered, part, part_formula, tree_mef, whole_formula}
use Rattle.open_psa_writer.proofs.Positions.{Group, all-gates, number-most, to-parts}
use Rattle.open_psa_writer.proofs.OneMef.{one-mef}
use Rattle.open_psa_writer.proofs.Truth.{all-at, mef-from-tree, tree-from-mef}

-- ---- a number holds no quote

-- no list of this form holds a byte
abbrev Lacks : ℕ → (List ℕ → Type 0) → Type 0
Lacks byte Form = (bytes : List ℕ) → Form bytes → In byte bytes → ⊥

lacks-one : (byte : ℕ) (class : ℕ → Bool) → class byte ≡ false → Lacks byte (One class)
lacks-one byte class none [] form i = i
lacks-one byte class none (b ∷ []) form i = ⊎_elim (λ (e : b ≡ byte). false≢true (sym none ∙ ap class (sym e) ∙ form)) (λ later. later) i
lacks-one byte class none (b ∷ c ∷ rest) form i = form

lacks-joined : (byte : ℕ) (First Second : List ℕ → Type 0) → Lacks byte First → Lacks byte Second → Lacks byte (Joined First Second)
lacks-joined byte First Second f s bytes is i = ⊎_elim (f is.front is.first) (s is.back is.second) (In-append byte is.front is.back (subst (In byte) is.whole i))

lacks-perhaps : (byte : ℕ) (Form : List ℕ → Type 0) → Lacks byte Form → Lacks byte (Perhaps Form)
lacks-perhaps byte Form f bytes is i = ⊎_elim (λ (none : bytes ≡ []). subst (In byte) none i) (λ form. f bytes form i) is

lacks-either : (byte : ℕ) (First Second : List ℕ → Type 0) → Lacks byte First → Lacks byte Second → Lacks byte (Either First Second)
lacks-either byte First Second f s bytes is i = ⊎_elim (λ form. f bytes form i) (λ form. s bytes form i) is

lacks-parts : (byte : ℕ) (Form : List ℕ → Type 0) → Lacks byte Form → (parts : List (List ℕ)) → AllByRecursion Form parts → In byte (concat parts) → ⊥
lacks-parts byte Form f [] each i = i
lacks-parts byte Form f (part ∷ parts) each i = ⊎_elim (f part each.0) (lacks-parts byte Form f parts each.1) (In-append byte part (concat parts) i)

lacks-repeated : (byte : ℕ) (Form : List ℕ → Type 0) → Lacks byte Form → Lacks byte (Repeated Form)
lacks-repeated byte Form f bytes is i = lacks-parts byte Form f is.parts is.each (subst (In byte) is.whole i)

lacks-digits : (byte : ℕ) (class : ℕ → Bool) → class byte ≡ false → (byte == 95) ≡ false → Lacks byte (Digits class)
lacks-digits byte class none other = lacks-joined byte (One class) _ (lacks-one byte class none) (lacks-repeated byte _ (lacks-one byte _ (ap (λ b. b || (byte == 95)) none ∙ other)))

number-lacks : Lacks 34 IsNumber
number-lacks =
    lacks-joined 34 (Digits is_digit) _ (lacks-digits 34 is_digit refl refl)
    (lacks-either 34 _ _
    (lacks-joined 34 (Perhaps IsFraction) _ (lacks-perhaps 34 IsFraction (lacks-joined 34 (Byte 46) _ (lacks-one 34 _ refl) (lacks-digits 34 is_digit refl refl)))
    (lacks-perhaps 34 IsExponent (lacks-joined 34 _ _ (lacks-one 34 _ refl) (lacks-joined 34 _ _ (lacks-perhaps 34 _ (lacks-one 34 _ refl)) (lacks-digits 34 is_digit refl refl)))))
    (lacks-joined 34 (Byte 35) _ (lacks-one 34 _ refl) (lacks-joined 34 (Digits is_hexadecimal) (Byte 35) (lacks-digits 34 is_hexadecimal refl refl) (lacks-one 34 _ refl))))

in-take : (byte n : ℕ) (bytes : List ℕ) → In byte (take n bytes) → In byte bytes
in-take byte zero bytes i = absurd i
in-take byte (suc n) [] i = absurd i
in-take byte (suc n) (b ∷ bytes) i = ⊎_elim (λ e. inl e) (λ later. inr (in-take byte n bytes later)) i

plain-lacks : (bytes : List ℕ) → (In 34 bytes → ⊥) → Contains (plain bytes) 34 → ⊥
plain-lacks bytes none c = none (In-filter (λ b. not (b == 95)) 34 bytes (In-contains 34 (plain bytes) c)).0

behind-plain : (base : List ℕ) → (Contains base 34 → ⊥) → (before : Number) → IsPlainNumber before → (digits : List ℕ) → IsPlainNumber (digits_behind base before digits)
behind-plain base none before is [] = is
behind-plain base none before is (b ∷ digits) =
    behind-plain base none (Digit before base (decimal (digit_of b)))
    (is, none, λ c. decimal-lacks 34 (digit_of b) (λ d. omega (arith, d.0)) (In-contains 34 (decimal (digit_of b)) c)) digits

number-plain : (text : List ℕ) → IsNumber text → IsPlainNumber (number_of text)
number-plain text is = by (base_len text == length text)
  where
    zero-plain : Contains (codes "0") 34 → ⊥
    zero-plain c = ⊎_elim (λ (e : 48 ≡ 34). omega arith) (λ later. later) (In-contains 34 (codes "0") c)

    by : (b : Bool) → IsPlainNumber (if b then Figures (plain text) else digits_behind (plain (take (base_len text) text)) (Figures (codes "0")) (filter is_hexadecimal (drop (base_len text) text)))
    by true = plain-lacks text (number-lacks text is)
    by false =
        behind-plain (plain (take (base_len text) text)) (plain-lacks (take (base_len text) text) (λ i. number-lacks text is (in-take 34 (base_len text) text i)))
        (Figures (codes "0")) zero-plain (filter is_hexadecimal (drop (base_len text) text))

-- ---- the text of a tree

module _ (system : System) (few_events : length system.events < 2 ^ 32) (tree : Tree) (made : IsMefTree system tree) (few_gates : length tree.gates < 2 ^ 32) (rates : List Rate) (are_rates : AreRates system rates) where
  plain-kind : (kind : GateKind) (count : ℕ) → count < 2 ^ 32 → MayHave kind count → IsPlainKind kind
  plain-kind kinds.And count few may = tt
  plain-kind kinds.Or count few may = tt
  plain-kind (kinds.AtLeast k) count few may = omega (arith, may.1)

  plain-single : (kind : GateKind) (count : ℕ) → MayHave kind count → count ≡ 1 → kind ≡ kinds.Or
  plain-single kinds.And count may one = absurd (omega (arith, may))
  plain-single kinds.Or count may one = refl
  plain-single (kinds.AtLeast k) count may one = absurd (omega (arith, may.0, may.1))

  plain-input : (input : Input) → IsWithin (length system.events) (length tree.gates) input → IsPlainInput (numbered tree.top input)
  plain-input (inputs.Event n) inside = omega (arith, inside, few_events)
  plain-input (inputs.Gate n) inside = omega (arith, inside, few_gates, number-most tree.top n)

  plain-inputs : (ins : List Input) → AllByRecursion (IsWithin (length system.events) (length tree.gates)) ins → AllByRecursion IsPlainInput (map (numbered tree.top) ins)
  plain-inputs [] inside = tt
  plain-inputs (input ∷ ins) inside = (plain-input input inside.0, plain-inputs ins inside.1)

  plain-number : (n : ℕ) (gate : Gate) → slice_get tree.gates n ≡ Some gate → gate_number tree.top n < 2 ^ 64
  plain-number n gate at = let fits = slice_get_within tree.gates n gate at in omega (arith, fits, few_gates, number-most tree.top n)

  -- what makes an auxiliary gate true
  plain-part : (number : ℕ) (first : MefInput) (needed among : ℕ) → number < 2 ^ 64 → IsPlainInput first → needed < 2 ^ 32 → among < 2 ^ 32 → IsPlainFormula (part_formula number first needed among)
  plain-part number first needed among few is small less = by (among == 1) (needed == 1) (needed == among)
    where
      part_is : (n m : ℕ) → n ≤ needed → m ≤ among → IsPlainInput (part number n m)
      part_is n m below inside = (few, omega (arith, small, below), omega (arith, less, inside))

      by : (b c d : Bool)
          → IsPlainFormula (if b then Over kinds.Or (first ∷ []) else if c then Over kinds.Or (first ∷ part number needed (among - 1) ∷ [])
          else if d then Over kinds.And (first ∷ part number (needed - 1) (among - 1) ∷ []) else Choice first (part number (needed - 1) (among - 1)) (part number needed (among - 1)))
      by true c d = (tt, (is, tt), λ one. refl)
      by false true d = (tt, (is, (part_is needed (among - 1) (omega arith) (omega arith), tt)), λ one. refl)
      by false false true = (tt, (is, (part_is (needed - 1) (among - 1) (omega arith) (omega arith), tt)), λ one. absurd (omega (arith, one)))
      by false false false = (is, part_is (needed - 1) (among - 1) (omega arith) (omega arith), part_is needed (among - 1) (omega arith) (omega arith))

  plain-whole : (number : ℕ) (kind : GateKind) (ins : List Input) → number < 2 ^ 64 → MayHave kind (length ins) → length ins < 2 ^ 32
      → AllByRecursion (IsWithin (length system.events) (length tree.gates)) ins → IsPlainFormula (whole_formula tree.top number kind ins)
  plain-whole number kinds.And ins small may few inside =
      (tt, plain-inputs ins inside, λ one. plain-single kinds.And (length ins) may (sym (length-map ins (numbered tree.top)) ∙ one))
  plain-whole number kinds.Or ins small may few inside = (tt, plain-inputs ins inside, λ one. refl)
  plain-whole number (kinds.AtLeast least) ins small may few inside = by (is_spread least ins)
    where
      by : (b : Bool) → IsPlainFormula (if b then Over kinds.Or (part number least (length ins) ∷ []) else Over (kinds.AtLeast least) (map (numbered tree.top) ins))
      by true = (tt, ((small, omega (arith, may.1, few), omega (arith, few)), tt), λ one. refl)
      by false = (
        plain-kind (kinds.AtLeast least) (length ins) few may,
        plain-inputs ins inside,
        λ one. plain-single (kinds.AtLeast least) (length ins) may (sym (length-map ins (numbered tree.top)) ∙ one),
      )

  within-at : (ins : List Input) → AllByRecursion (IsWithin (length system.events) (length tree.gates)) ins → (d : ℕ) → d < length ins
      → IsPlainInput (numbered tree.top (slice_index_or ins d (inputs.Event 0)))
  within-at [] inside d below = absurd (omega arith)
  within-at (x ∷ xs) inside zero below = plain-input x inside.0
  within-at (x ∷ xs) inside (suc d) below = within-at xs inside.1 d (omega arith)

  plain-group : (n : ℕ) (gate : Gate) → slice_get tree.gates n ≡ Some gate → Group IsPlainGate system tree.top n gate
  plain-group n gate at =
      let is = all-at (IsMefGate system (length tree.gates)) tree.gates made.gates n gate at in
      let small = plain-number n gate at in (
        record { name = small; label = tt; formula = plain-whole (gate_number tree.top n) gate.kind gate.inputs small is.count is.few is.inputs },
        to-parts IsPlainGate tree.top (gate_number tree.top n) gate.kind gate.inputs
            (λ least needed among kind spread some most low high fits.
            let inside : among ≤ length gate.inputs = omega (arith, most, high, fits) in
            record {
              name = (small, omega (arith, low, inside, is.few), omega (arith, inside, is.few));
              label = refl;
              formula =
                  plain-part (gate_number tree.top n) (numbered tree.top (slice_index_or gate.inputs (length gate.inputs - among) (inputs.Event 0))) needed among small
                  (within-at gate.inputs is.inputs (length gate.inputs - among) (omega (arith, some, low, inside))) (omega (arith, low, inside, is.few)) (omega (arith, inside, is.few));
            }),
      )

  plain-gates : AllByRecursion IsPlainGate ((tree_mef system tree rates).top ∷ (tree_mef system tree rates).others)
  plain-gates = all-gates IsPlainGate system tree rates made.top_in plain-group

  plain-events : (events : List ℕ) → AllByRecursion (λ event. event < length system.events) events → AllByRecursion IsPlainEvent (map (mef_event system rates) events)
  plain-events [] inside = tt
  plain-events (event ∷ events) inside = (
    record {
      number = omega (arith, inside.0, few_events);
      value = number-plain _ (All-get_or (λ (rate : Rate). IsNumber rate.text) rates event conservative_rate (omega (arith, inside.0, are_rates.each)) are_rates.numbers);
    },
    plain-events events inside.1,
  )

  -- the bytes of a tree are its text
  pub is-mef : IsMefOf (mef_text system tree rates) (tree_mef system tree rates)
  is-mef =
      record {
        top = plain-gates.0;
        others = plain-gates.1;
        events = plain-events tree.events made.events_in;
        bytes_are = refl;
      }

  -- the text is true for the names of a set of events exactly where the tree is true for the set
  pub mef-truth : IsSystem system → (es : NumberSet) → MefTrue (mef_text system tree rates) (names_of system es) ↔ TreeHolds tree es
  mef-truth is_system es = (
    (λ is_true. tree-from-mef system is_system tree made rates es
        (subst (λ (m : Mef). Tells m (names_of system es)) (one-mef (mef_text system tree rates) is_true.mef (tree_mef system tree rates) is_true.is_mef is-mef) is_true.tells)),
    (λ holds. record { mef = tree_mef system tree rates; is_mef = is-mef; tells = mef-from-tree system is_system tree made rates es holds }),
  )

  -- and where the tree is that of a target, exactly where the target holds
  pub mef-target : IsSystem system → (target : ℕ) (es : NumberSet) → IsTreeFor system target tree → MefTrue (mef_text system tree rates) (names_of system es) ↔ Holds system es target
  mef-target is_system target es is =
      let text = mef-truth is_system es in
      let truth = tree-truth system target tree es is_system is in
      ((λ t. truth.0 (text.0 t)), (λ holds. text.1 (truth.1 holds)))
