-- Whether a written set has `noerror`, which stands for that no error is there (EMV2: type sets).
use Rattle.std.specs.Prelude.{Bool, true, false, Option, Some, None}
use Rattle.std.specs.List.{list_any}
use Rattle.aadl_syntax.specs.declared.error_model.Term.{Term}
use Rattle.aadl_syntax.specs.declared.error_model.Term.TheVariants.{NoError, One, Product}
use Rattle.aadl_syntax.specs.declared.error_model.TypeItem.{TypeItem}
use Rattle.aadl_syntax.specs.declared.error_model.TypeKind.{TypeKind}
use Rattle.aadl_syntax.specs.declared.error_model.TypeKind.TheVariants.{Plain, Alias, Set, SetAlias}
use Rattle.aadl_syntax.specs.declared.error_model.TypeSet.{TypeSet}
use Rattle.error_libraries.specs.declared.id.ItemId.{ItemId}
use Rattle.error_libraries.specs.declared.scope.Scope.{Scope}
use Rattle.error_libraries.specs.Libraries.{Table, item_at}
use Rattle.error_libraries.specs.Search.{named}
use Rattle.error_types.specs.Walk.{reached}

-- whether a term is `noerror`
abbrev pub is_no_error : Term → Bool
is_no_error (NoError spot) = true
is_no_error (One reference) = false
is_no_error (Product spot) = false

-- whether an item of this kind is a set with `noerror` among its own terms
abbrev pub says_no_error : TypeKind → Bool
says_no_error (Plain base) = false
says_no_error (Alias target) = false
says_no_error (Set set) = list_any is_no_error set.terms
says_no_error (SetAlias target) = false

-- the same of an item, if there is one
abbrev pub is_quiet_item : Option TypeItem → Bool
is_quiet_item None = false
is_quiet_item (Some item) = says_no_error item.kind

-- Whether a term of a written set is `noerror`, or names a set that has it, by itself or through aliases and sets: one of the
-- items that the walk from its name follows.
abbrev pub term_has_no_error : Table → Scope → Term → Bool
term_has_no_error table scope (NoError spot) = true
term_has_no_error table scope (One reference) = list_any (λ id. is_quiet_item (item_at table.libraries id)) (reached false table (named table scope reference).target).followed
term_has_no_error table scope (Product spot) = false

-- Whether a written set has `noerror`, in a text.
abbrev pub has_no_error : Table → Scope → TypeSet → Bool
has_no_error table scope set = list_any (term_has_no_error table scope) set.terms
