-- Lists that grow step by step within a limit, and what is over it.
use Rattle.std.proofs.Common.{ℕ, ◌+◌, ◌≡◌, ◌<◌, ◌≤◌, true, false, cond, List, [], ◌∷◌, ◌++◌, length, map, take, drop, get_or, Result, Ok, Err, refl, sym, ap, ◌∙◌, subst, add-one, arith}
use Rattle.std.proofs.lemmas.List.{append-nil, append_assoc, length-append, length-map, length-take-le, map-append, take-append-drop, take_all, take_more}
use Rattle.plain_values.specs.declared.refusal.Code.{Code}
use Rattle.plain_values.specs.declared.refusal.Stop.{Stop}
use Rattle.plain_values.specs.declared.refusal.Stop.TheVariants.{Memory, Refused}
use Rattle.plain_values.specs.Numbered.{numbered_from, numbers_below}
use Rattle.package_index.proofs.Loops.{numbered-more}
use Rattle.error_types.proofs.RowLaws.{length-below}
use Rattle.propagation_points.specs.Points.{Point, side_of}
use Rattle.propagation_points.specs.States.{all_variants}
use Rattle.propagation_points.specs.Uses.{side_types}
use Rattle.error_models.specs.declared.model.ErrorModel.{ErrorModel}
use Rattle.propagation_links.specs.declared.link.Link.{Link}
use Rattle.model_facts.specs.Assembly.{side_numbers}
use Rattle.model_facts.specs.Facts.{arrivals, event_in, fact_in, inward_of, is_linked, model_events, model_facts, point_facts, source_events}
use Rattle.model_facts.specs.inner.Steps.{Adds, Exceeds, Grows, at_side}
use Rattle.model_facts.specs.declared.keys.EventKind.TheVariants.{Arrival, Declared}
use Rattle.model_facts.specs.declared.keys.FactKind.TheVariants.{Enters, Exits, State}

-- ---- parts of parts

pub map-map : {A B C : Type 0} (f : B → C) (g : A → B) (xs : List A) → map f (map g xs) ≡ map (λ x. f (g x)) xs
map-map f g [] = refl
map-map f g (x ∷ xs) = ap (λ rest. f (g x) ∷ rest) (map-map f g xs)

-- what is made of numbered parts
pub map-numbered : {Part Row Item : Type 0} (f : Row → Item) (give : ℕ → Part → List Row) (number : ℕ) (parts : List Part) → map f (numbered_from give number parts) ≡ numbered_from (λ n part. map f (give n part)) number parts
map-numbered f give number [] = refl
map-numbered f give number (part ∷ parts) = map-append f (give number part) (numbered_from give (number + 1) parts) ∙ ap (λ rest. map f (give number part) ++ rest) (map-numbered f give (number + 1) parts)

numbered-front : {Part Row : Type 0} (give : ℕ → Part → List Row) (number : ℕ) (xs ys : List Part) → (rest : List Row) × (numbered_from give number (xs ++ ys) ≡ numbered_from give number xs ++ rest)
numbered-front give number [] ys = (numbered_from give number ys, refl)
numbered-front give number (x ∷ xs) ys =
    let more = numbered-front give (number + 1) xs ys in
    (more.0, ap (λ rest. give number x ++ rest) more.1 ∙ sym (append_assoc (give number x) (numbered_from give (number + 1) xs) more.0))

-- the parts up to a place give no more than all
numbered-fewer : {Part Row : Type 0} (give : ℕ → Part → List Row) (n : ℕ) (parts : List Part) → length (numbered_from give 0 (take n parts)) ≤ length (numbered_from give 0 parts)
numbered-fewer give n parts =
    let split = numbered-front give 0 (take n parts) (drop n parts) in
    let whole = ap length (ap (numbered_from give 0) (sym (take-append-drop n parts)) ∙ split.1) in
    let long = length-append (numbered_from give 0 (take n parts)) split.0 in
    omega (arith, whole, long)

-- ---- steps

module _ {Item : Type 0} (limit : ℕ) (code : Code) where
  pub grows-none : (old : List Item) → Grows limit old old []
  grows-none old = record { is = sym (append-nil old); within = λ within. within }

  pub grows-then : (old mid new xs ys : List Item) → Grows limit old mid xs → Grows limit mid new ys → Grows limit old new (xs ++ ys)
  grows-then old mid new xs ys first second = record {
    is = second.is ∙ ap (λ front. front ++ ys) first.is ∙ append_assoc old xs ys;
    within = λ within. second.within (first.within within);
  }

  -- more items exceed too
  pub exceeds-longer : (items more : List Item) (stop : Stop) → length items ≤ length more → Exceeds limit code items stop → Exceeds limit code more stop
  exceeds-longer items more Memory longer over = tt
  exceeds-longer items more (Refused refusal) longer over = (omega (arith, longer, over.0), over.1)

  pub exceeds-then : (old mid xs ys : List Item) (stop : Stop) → Grows limit old mid xs → Exceeds limit code (mid ++ ys) stop → Exceeds limit code (old ++ (xs ++ ys)) stop
  exceeds-then old mid xs ys stop first over = subst (λ all. Exceeds limit code all stop) (ap (λ front. front ++ ys) first.is ∙ append_assoc old xs ys) over

  -- the first of two exceeds
  pub exceeds-first : (old xs ys : List Item) (stop : Stop) → Exceeds limit code (old ++ xs) stop → Exceeds limit code (old ++ (xs ++ ys)) stop
  exceeds-first old xs ys stop over =
      let a = length-append old xs in
      let b = length-append old (xs ++ ys) in
      let c = length-append xs ys in
      exceeds-longer (old ++ xs) (old ++ (xs ++ ys)) stop (omega (arith, a, b, c)) over

  pub adds-then : {Done : Type 0} (old mid new xs ys : List Item) (result : Result Done Stop) → Grows limit old mid xs → Adds limit code mid new ys result → Adds limit code old new (xs ++ ys) result
  adds-then old mid new xs ys (Ok done) first second = grows-then old mid new xs ys first second
  adds-then old mid new xs ys (Err stop) first second = exceeds-then old mid xs ys stop first second

  -- ---- loops

  -- an item more, behind which there are others
  module _ (front : ℕ → List Item) (i : ℕ) (items all : List Item) (step : front (i + 1) ≡ front i ++ items) (fewer : length (front (i + 1)) ≤ length all) (old mid : List Item) (so_far : Grows limit old mid (front i)) where
    step-grows : (new : List Item) → Grows limit mid new items → Grows limit old new (front (i + 1))
    step-grows new more = subst (Grows limit old new) (sym step) (grows-then old mid new (front i) items so_far more)

    step-exceeds : (stop : Stop) → Exceeds limit code (mid ++ items) stop → Exceeds limit code (old ++ all) stop
    step-exceeds stop over =
        let a = length-append old (front i ++ items) in
        let b = length-append old all in
        let c = ap length step in
        exceeds-longer (old ++ (front i ++ items)) (old ++ all) stop (omega (arith, a, b, c, fewer)) (exceeds-then old mid (front i) items stop so_far over)

  -- items that are made of the numbers below a count
  module _ (make : ℕ → Item) (count i : ℕ) (within : i < count) (old mid : List Item) (so_far : Grows limit old mid (map make (numbers_below i))) where
    below-step : map make (numbers_below (i + 1)) ≡ map make (numbers_below i) ++ make i ∷ []
    below-step = ap (λ n. map make (numbers_below n)) (add-one i) ∙ map-append make (numbers_below i) (i ∷ [])

    below-fewer : length (map make (numbers_below (i + 1))) ≤ length (map make (numbers_below count))
    below-fewer =
        let a = length-map (numbers_below (i + 1)) make ∙ length-below (i + 1) in
        let b = length-map (numbers_below count) make ∙ length-below count in
        omega (arith, a, b, within)

    pub grows-below : (new : List Item) → Grows limit mid new (make i ∷ []) → Grows limit old new (map make (numbers_below (i + 1)))
    grows-below = step-grows (λ n. map make (numbers_below n)) i (make i ∷ []) (map make (numbers_below count)) below-step below-fewer old mid so_far

    pub exceeds-below : (stop : Stop) → Exceeds limit code (mid ++ make i ∷ []) stop → Exceeds limit code (old ++ map make (numbers_below count)) stop
    exceeds-below = step-exceeds (λ n. map make (numbers_below n)) i (make i ∷ []) (map make (numbers_below count)) below-step below-fewer old mid so_far

  -- items that are made of those of a list
  module _ {Part : Type 0} (make : Part → Item) (parts : List Part) (i : ℕ) (part : Part) (within : i < length parts) (is : part ≡ get_or parts i part) (old mid : List Item) (so_far : Grows limit old mid (map make (take i parts))) where
    each-step : map make (take (i + 1) parts) ≡ map make (take i parts) ++ make part ∷ []
    each-step = ap (map make) (take_more parts i part within ∙ ap (λ x. take i parts ++ x ∷ []) (sym is)) ∙ map-append make (take i parts) (part ∷ [])

    each-fewer : length (map make (take (i + 1) parts)) ≤ length (map make parts)
    each-fewer =
        let a = length-map (take (i + 1) parts) make ∙ length-take-le (i + 1) parts (omega (arith, within)) in
        let b = length-map parts make in
        omega (arith, a, b, within)

    pub grows-each : (new : List Item) → Grows limit mid new (make part ∷ []) → Grows limit old new (map make (take (i + 1) parts))
    grows-each = step-grows (λ n. map make (take n parts)) i (make part ∷ []) (map make parts) each-step each-fewer old mid so_far

    pub exceeds-each : (stop : Stop) → Exceeds limit code (mid ++ make part ∷ []) stop → Exceeds limit code (old ++ map make parts) stop
    exceeds-each = step-exceeds (λ n. map make (take n parts)) i (make part ∷ []) (map make parts) each-step each-fewer old mid so_far

  -- items that numbered parts give
  module _ {Part : Type 0} (give : ℕ → Part → List Item) (parts : List Part) (i : ℕ) (part : Part) (within : i < length parts) (is : part ≡ get_or parts i part) (old mid : List Item) (so_far : Grows limit old mid (numbered_from give 0 (take i parts))) where
    pub grows-numbered : (new : List Item) → Grows limit mid new (give i part) → Grows limit old new (numbered_from give 0 (take (i + 1) parts))
    grows-numbered =
        step-grows (λ n. numbered_from give 0 (take n parts)) i (give i part) (numbered_from give 0 parts) (numbered-more give parts i part within is) (numbered-fewer give (i + 1) parts) old mid so_far

    pub exceeds-numbered : (stop : Stop) → Exceeds limit code (mid ++ give i part) stop → Exceeds limit code (old ++ numbered_from give 0 parts) stop
    exceeds-numbered =
        step-exceeds (λ n. numbered_from give 0 (take n parts)) i (give i part) (numbered_from give 0 parts) (numbered-more give parts i part within is) (numbered-fewer give (i + 1) parts) old mid so_far

  -- at the end of a loop all parts were met
  pub grows-all : {Part : Type 0} (made : List Part → List Item) (parts : List Part) (i : ℕ) (old new : List Item) → length parts ≤ i → Grows limit old new (made (take i parts)) → Grows limit old new (made parts)
  grows-all made parts i old new past so_far = subst (λ met. Grows limit old new (made met)) (take_all i parts past) so_far

-- ---- parts of a model

-- what a point gives, side by side
pub two-sides : (owner number : ℕ) (universe : List ℕ) (point : Point)
    → (map (λ type. fact_in owner (at_side false number type)) (side_types universe (side_of false point)) ++ map (λ type. fact_in owner (at_side true number type)) (side_types universe (side_of true point)))
    ≡ map (fact_in owner) (point_facts universe number point)
two-sides owner number universe point =
    (λ i. sym (map-map (fact_in owner) (Enters number) (side_types universe point.inward)) i ++ sym (map-map (fact_in owner) (Exits number) (side_types universe point.outward)) i)
    ∙ sym (map-append (fact_in owner) (map (Enters number) (side_types universe point.inward)) (map (Exits number) (side_types universe point.outward)))

-- the arrivals at a side into which no link leads
pub arrivals-free : (links : List Link) (owner number : ℕ) (point : Point) → is_linked links (inward_of owner number) ≡ false
    → map (event_in owner) (arrivals links owner number point) ≡ map (λ type. event_in owner (Arrival number type)) (side_numbers (side_of false point))
arrivals-free links owner number point free = ap (λ b. map (event_in owner) (cond b [] (map (Arrival number) (side_numbers point.inward)))) free ∙ map-map (event_in owner) (Arrival number) (side_numbers point.inward)

-- the facts of a component with a model: of its states, and then of its points
pub facts-parts : (owner : ℕ) (universe : List ℕ) (model : ErrorModel)
    → (map (λ state. fact_in owner (State state)) (numbers_below (length (all_variants model.states.sorts))) ++ numbered_from (λ number point. map (fact_in owner) (point_facts universe number point)) 0 model.points)
    ≡ map (fact_in owner) (model_facts universe model)
facts-parts owner universe model =
    (λ i. sym (map-map (fact_in owner) State (numbers_below (length (all_variants model.states.sorts)))) i ++ sym (map-numbered (fact_in owner) (point_facts universe) 0 model.points) i)
    ∙ sym (map-append (fact_in owner) (map State (numbers_below (length (all_variants model.states.sorts)))) (numbered_from (point_facts universe) 0 model.points))

-- the events of a component with a model: its error events, its sources, and the arrivals
pub events-parts : (owner : ℕ) (links : List Link) (model : ErrorModel)
    → (map (λ event. event_in owner (Declared event)) (numbers_below (length (all_variants model.behavior.events)))
    ++ (numbered_from (λ number flow. map (event_in owner) (source_events number flow)) 0 model.flows ++ numbered_from (λ number point. map (event_in owner) (arrivals links owner number point)) 0 model.points))
    ≡ map (event_in owner) (model_events links owner model)
events-parts owner links model =
    let declared = map Declared (numbers_below (length (all_variants model.behavior.events))) in
    let sources = numbered_from source_events 0 model.flows in
    let points = numbered_from (arrivals links owner) 0 model.points in
    (λ i. sym (map-map (event_in owner) Declared (numbers_below (length (all_variants model.behavior.events)))) i ++ (sym (map-numbered (event_in owner) source_events 0 model.flows) i ++ sym (map-numbered (event_in owner) (arrivals links owner) 0 model.points) i))
    ∙ ap (λ rest. map (event_in owner) declared ++ rest) (sym (map-append (event_in owner) sources points)) ∙ sym (map-append (event_in owner) declared (sources ++ points))
