use Rattle.std.proofs.Common.{◌≡◌, ◌∙◌, None, length, sym, subst, arith}
use Rattle.fault_system.specs.inner.CutSets.{is_minimal}
use Rattle.fault_system.specs.Listings.{IsListing}
use Rattle.plain_listing.proofs.Trying.{sized, all_sizes}
use Rattle.plain_listing.proofs.plain_listing.Goals as goal
use Rattle.plain_listing.proofs.plain_listing.Goals.{else-loop-size-test, then-loop-size-test+in_ok-list_with+else-size-size-end}

pub loop-size-preserved : goal.loop-size-preserved
loop-size-preserved c = sized (is_minimal c.args.system.now c.args.target) c.loop-size.size (length c.args.system.now.events) _ _ _ c.loop-size.invariant c.new-chosen.ensures.items c.in_ok-list_with.ensures.listed

pub returns : goal.returns
returns c = elim c.loop-size-test.branch [
  | else-loop-size-test w ↦ absurd (omega arith)
  | then-loop-size-test+in_ok-list_with+else-size-size-end w ↦
      let p = is_minimal c.args.system.now c.args.target in
      let last : c.loop-size.size ≡ length c.args.system.now.events = omega (arith, c.events-size-end.ensures.count) in
      let all = sized p c.loop-size.size (length c.args.system.now.events) _ _ _ c.loop-size.invariant w.new-chosen.ensures.items w.in_ok-list_with.ensures.listed in
      subst (λ sets. IsListing c.args.system.now c.args.target None sets) (sym (w.listed-is ∙ all_sizes p _ _ _ last all)) (c.computed_listing.ensures c.args.system.now c.args.target None)
]
