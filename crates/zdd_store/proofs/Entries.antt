-- The table of answers: what stands in it is right, whatever is put into it.
use Rattle.std.proofs.Common.{◌≡◌, ℕ, Bool, true, false, if◌then◌else◌, List, [], ◌∷◌, ◌++◌, slice_get, Some, refl, sym, subst, arith}
use Rattle.std.proofs.lemmas.Option.{slice_get_within, get_or_from_slice_get}
use Rattle.std.proofs.lemmas.List.Elements.{All-push}
use Rattle.zdd_store.specs.inner.Store.{Families, IsSound}
use Rattle.zdd_store.specs.inner.Answers.{IsAnswer, AreRight}
use Rattle.zdd_store.specs.inner.Family.{IsAntichain}
use Rattle.zdd_store.specs.declared.question.Known.{Known}
use Rattle.zdd_store.specs.declared.question.Operation.TheVariants.{Minimal}
use Rattle.zdd_store.proofs.Orders.{contains_none}

-- what stands at a place is right
pub right_at : (store : Families) (table : List Known) (place : ℕ) (known : Known) → AreRight store table → slice_get table place ≡ Some known → IsAnswer store known.question known.answer
right_at store table place known right e =
    subst (λ (k : Known). IsAnswer store k.question k.answer) (get_or_from_slice_get table place known known e)
    (right place known (slice_get_within table place known e))

-- one more at the end, if memory sufficed
pub right_pushed : (b : Bool) (store : Families) (table : List Known) (known : Known) → AreRight store table → IsAnswer store known.question known.answer → AreRight store (if b then table ++ known ∷ [] else table)
right_pushed true store table known right new = All-push (λ (k : Known). IsAnswer store k.question k.answer) table known right new
right_pushed false store table known right new = right

-- EMPTY has no minimal sets
pub none_right : (store : Families) (second most : ℕ) → IsSound store → IsAnswer store (record { operation = Minimal; first = record { position = 0 }; second = second; most = most }) 0
none_right store second most sound =
    let some = sound.some in
    record {
      first_in = omega arith;
      answer_in = omega arith;
      right = record {
        covering = λ set. refl;
        apart = subst IsAntichain (sym sound.empty) (λ part whole here there h. absurd (contains_none part here));
      };
    }
