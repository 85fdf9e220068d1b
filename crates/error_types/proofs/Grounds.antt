-- What is refused from a grounded item on, and which types it names.
use Rattle.std.proofs.Common.{ℕ, ◌^◌, ◌≤◌, ◌≡◌, Bool, true, false, ◌||◌, cond, List, [], ◌∷◌, ◌++◌, flat_map, option_to_list, Option, Some, None, refl, sym, ap, ◌∙◌}
use Rattle.std.specs.List.{list_any}
use Rattle.std.proofs.lemmas.List.Folds.{list_any-append}
use Rattle.plain_values.specs.Order.{least, nearer}
use Rattle.plain_values.specs.declared.refusal.Refusal.{Refusal}
use Rattle.plain_values.proofs.OrderLaws.{nearer-none, nearer-assoc}
use Rattle.error_libraries.specs.declared.id.ItemId.{ItemId}
use Rattle.error_libraries.specs.declared.scope.Scope.{Scope}
use Rattle.error_types.specs.inner.Grounded.{grounded, is_stopped, name_types, names_first, target_first, target_types}
use Rattle.error_libraries.specs.Libraries.{Table, item_at, library_scope, number_of}
use Rattle.error_types.specs.inner.Rows.{row_of}
use Rattle.error_libraries.specs.Search.{named}
use Rattle.error_types.specs.Types.{is_below}
use Rattle.error_types.specs.Walk.{Need, needs_of, of_item, products_of, walk_from}
use Rattle.error_types.proofs.GroundLaws.{item-comes, of_names, of_target}
use Rattle.plain_values.proofs.Nearer.{nearer-comm, nearer-same}
use Rattle.error_types.proofs.TypeRows.{row-same}

or-assoc : (a b c : Bool) → ((a || b) || c) ≡ (a || (b || c))
or-assoc true b c = refl
or-assoc false b c = refl

or-comm : (a b : Bool) → (a || b) ≡ (b || a)
or-comm true true = refl
or-comm true false = refl
or-comm false true = refl
or-comm false false = refl

pub or-same : (a : Bool) → (a || a) ≡ a
or-same true = refl
or-same false = refl

or-none : (a : Bool) → (a || false) ≡ a
or-none true = refl
or-none false = refl

module _ (table : Table) where
  abbrev text : ItemId → Scope
  text id = library_scope table id.«package»

  -- ---- refusals

  abbrev first_from : ItemId → Option Refusal
  first_from id = (walk_from true table id).first

  abbrev own_first : ItemId → Option Refusal
  own_first id = least (of_item products_of (item_at table.libraries id))

  first-comes : (n : ℕ) (id : ItemId) → n ≤ 2 ^ 64 → grounded n table id ≡ true → first_from id ≡ nearer (own_first id) (of_names table true nearer None nearer-assoc nearer-comm nearer-same nearer-none (λ w. w.first) own_first (λ f. f) (λ w i. refl) (λ w f. refl) (λ w i. refl) first_from (text id) (of_item (needs_of true) (item_at table.libraries id)))
  first-comes = item-comes table true nearer None nearer-assoc nearer-comm nearer-same nearer-none (λ w. w.first) own_first (λ f. f) (λ w i. refl) (λ w f. refl) (λ w i. refl) refl

  abbrev firsts : Scope → List Need → Option Refusal
  firsts = of_names table true nearer None nearer-assoc nearer-comm nearer-same nearer-none (λ w. w.first) own_first (λ f. f) (λ w i. refl) (λ w f. refl) (λ w i. refl) first_from

  abbrev target_firsts : Need → Option ItemId → Option Refusal
  target_firsts = of_target table true nearer None nearer-assoc nearer-comm nearer-same nearer-none (λ w. w.first) own_first (λ f. f) (λ w i. refl) (λ w f. refl) (λ w i. refl) first_from

  target-is : (need : Need) (target : Option ItemId) → target_firsts need target ≡ target_first table need target
  target-is need None = refl
  target-is need (Some id) = refl

  firsts-are : (scope : Scope) (needs : List Need) → firsts scope needs ≡ names_first table scope needs
  firsts-are scope [] = refl
  firsts-are scope (need ∷ needs) = λ i. nearer (nearer (named table scope need.reference).first (target-is need (named table scope need.reference).target i)) (firsts-are scope needs i)

  pub grounded-first : (n : ℕ) (id : ItemId) → n ≤ 2 ^ 64 → grounded n table id ≡ true → first_from id ≡ nearer (own_first id) (names_first table (text id) (of_item (needs_of true) (item_at table.libraries id)))
  grounded-first n id few ground = first-comes n id few ground ∙ ap (nearer (own_first id)) (firsts-are (text id) (of_item (needs_of true) (item_at table.libraries id)))

  -- ---- types

  module _ (test : ℕ → Bool) where
    abbrev any_from : ItemId → Bool
    any_from id = list_any test (walk_from false table id).types

    abbrev own_any : ItemId → Bool
    own_any id = list_any test (option_to_list (number_of table id))

    abbrev anys : Scope → List Need → Bool
    anys =
        of_names table false (λ a b. a || b) false or-assoc or-comm or-same or-none (λ w. list_any test w.types) own_any (λ f. false) (λ w id. list_any-append test w.types (option_to_list (number_of table id))) (λ w f. sym (or-none (list_any test w.types))) (λ w i. refl) any_from

    abbrev target_anys : Need → Option ItemId → Bool
    target_anys =
        of_target table false (λ a b. a || b) false or-assoc or-comm or-same or-none (λ w. list_any test w.types) own_any (λ f. false) (λ w id. list_any-append test w.types (option_to_list (number_of table id))) (λ w f. sym (or-none (list_any test w.types))) (λ w i. refl) any_from

    any-comes : (n : ℕ) (id : ItemId) → n ≤ 2 ^ 64 → grounded n table id ≡ true → any_from id ≡ (own_any id || anys (text id) (of_item (needs_of false) (item_at table.libraries id)))
    any-comes =
        item-comes table false (λ a b. a || b) false or-assoc or-comm or-same or-none (λ w. list_any test w.types) own_any (λ f. false) (λ w id. list_any-append test w.types (option_to_list (number_of table id))) (λ w f. sym (or-none (list_any test w.types))) (λ w i. refl) refl

    stopped-any : (b : Bool) (types : List ℕ) → cond b false (list_any test types) ≡ list_any test (cond b [] types)
    stopped-any true types = refl
    stopped-any false types = refl

    target-any : (need : Need) (target : Option ItemId) → target_anys need target ≡ list_any test (target_types table need target)
    target-any need None = refl
    target-any need (Some id) = stopped-any (is_stopped table need id) (walk_from false table id).types

    anys-are : (scope : Scope) (needs : List Need) → anys scope needs ≡ list_any test (flat_map (name_types table scope) needs)
    anys-are scope [] = refl
    anys-are scope (need ∷ needs) =
        (λ i. target-any need (named table scope need.reference).target i || anys-are scope needs i) ∙ sym (list_any-append test (name_types table scope need) (flat_map (name_types table scope) needs))

    any-types : (n : ℕ) (id : ItemId) → n ≤ 2 ^ 64 → grounded n table id ≡ true → any_from id ≡ list_any test (option_to_list (number_of table id) ++ flat_map (name_types table (text id)) (of_item (needs_of false) (item_at table.libraries id)))
    any-types n id few ground =
        any-comes n id few ground ∙ ap (λ b. own_any id || b) (anys-are (text id) (of_item (needs_of false) (item_at table.libraries id)))
        ∙ sym (list_any-append test (option_to_list (number_of table id)) (flat_map (name_types table (text id)) (of_item (needs_of false) (item_at table.libraries id))))

  pub grounded-row : (n : ℕ) (id : ItemId) → n ≤ 2 ^ 64 → grounded n table id ≡ true
      → row_of table (walk_from false table id).types ≡ row_of table (option_to_list (number_of table id) ++ flat_map (name_types table (text id)) (of_item (needs_of false) (item_at table.libraries id)))
  grounded-row n id few ground = row-same table (walk_from false table id).types _ (λ low. any-types (is_below table low) n id few ground)
