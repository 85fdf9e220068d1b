-- What is left of a text, line by line.
use Rattle.std.proofs.Common.{ℕ, zero, suc, ◌+◌, ◌≡◌, List, [], ◌∷◌, ◌++◌, map, drop, slice_get, Some, None, ap, ◌∙◌, sym, subst, refl, arith, append_assoc}
use Rattle.std.specs.Option.{option_map_or}
use Rattle.round_gates.specs.declared.tree.Gate.{Gate}
use Rattle.round_gates.specs.declared.tree.Input.{Input}
use Rattle.dot_writer.specs.declared.sheet.Sheet.{Sheet}
use Rattle.dot_writer.specs.Picture.{arc_line, arc_lines, box_start, boxes_text}
use Rattle.dot_writer.specs.TreePicture.{arc_of, box_of, boxes_of, inputs_at}
use Rattle.dot_writer.specs.inner.DotText.{arcs_from, below_from, boxes_from, end_of}

drop-more : {X : Type 0} (xs : List X) (n : ℕ) (x : X) → slice_get xs n ≡ Some x → drop n xs ≡ x ∷ drop (suc n) xs
drop-more [] n x at = cc
drop-more (y ∷ ys) zero x at = let same : y ≡ x = cc in ap (λ z. z ∷ ys) same
drop-more (y ∷ ys) (suc n) x at = drop-more ys n x at

drop-here : {X : Type 0} (xs : List X) (n : ℕ) (x : X) → slice_get xs n ≡ Some x → drop n xs ≡ x ∷ drop (n + 1) xs
drop-here xs n x at = let next : suc n ≡ n + 1 = omega arith in subst (λ k. drop n xs ≡ x ∷ drop k xs) next (drop-more xs n x at)

drop-end : {X : Type 0} (xs : List X) (n : ℕ) → slice_get xs n ≡ None → drop n xs ≡ []
drop-end [] zero at = refl
drop-end [] (suc n) at = refl
drop-end (y ∷ ys) zero at = cc
drop-end (y ∷ ys) (suc n) at = drop-end ys n at

arcs_here : (sheet : Sheet) (position place : ℕ) (input : Input) → slice_get (inputs_at sheet.tree.gates position) place ≡ Some input
    → arcs_from sheet position place ≡ arc_line position place (arc_of sheet position input) ++ arcs_from sheet position (place + 1)
arcs_here sheet position place input at = ap (λ inputs. arc_lines position place (map (arc_of sheet position) inputs)) (drop-here (inputs_at sheet.tree.gates position) place input at)

pub below_here : (sheet : Sheet) (position place : ℕ) (input : Input) → slice_get (inputs_at sheet.tree.gates position) place ≡ Some input
    → below_from sheet position place ≡ arc_line position place (arc_of sheet position input) ++ below_from sheet position (place + 1)
below_here sheet position place input at =
    ap (λ t. t ++ end_of sheet position) (arcs_here sheet position place input at)
    ∙ append_assoc (arc_line position place (arc_of sheet position input)) (arcs_from sheet position (place + 1)) (end_of sheet position)

pub below_end : (sheet : Sheet) (position place : ℕ) → slice_get (inputs_at sheet.tree.gates position) place ≡ None → below_from sheet position place ≡ end_of sheet position
below_end sheet position place at =
    ap (λ inputs. arc_lines position place (map (arc_of sheet position) inputs) ++ end_of sheet position) (drop-end (inputs_at sheet.tree.gates position) place at)

pub boxes_here : (sheet : Sheet) (position : ℕ) (gate : Gate) → slice_get sheet.tree.gates position ≡ Some gate
    → boxes_from sheet position ≡ box_start position (box_of sheet position gate) ++ (below_from sheet position 0 ++ boxes_from sheet (position + 1))
boxes_here sheet position gate at =
    let start = box_start position (box_of sheet position gate) in
    let later = end_of sheet position ++ boxes_from sheet (position + 1) in
    ap (λ gates. boxes_text position (boxes_of sheet position gates)) (drop-here sheet.tree.gates position gate at)
    ∙ ap (λ found. start ++ (arc_lines position 0 (map (arc_of sheet position) (option_map_or (λ g. g.inputs) found [])) ++ later)) (sym at)
    ∙ ap (λ t. start ++ t) (sym (append_assoc (arcs_from sheet position 0) (end_of sheet position) (boxes_from sheet (position + 1))))

pub boxes_end : (sheet : Sheet) (position : ℕ) → slice_get sheet.tree.gates position ≡ None → boxes_from sheet position ≡ []
boxes_end sheet position at = ap (λ gates. boxes_text position (boxes_of sheet position gates)) (drop-end sheet.tree.gates position at)
