use Rattle.std.proofs.lemmas.Bool.{false≢true}
use Rattle.zdd_store.proofs.Shaped.{least_size_branch, greatest_size_branch}
use Rattle.zdd_store.proofs.shapes.of_branch.Goals as goal

pub returns : goal.returns
returns c = λ var low high l h. record {
  least = least_size_branch c.least_of_both.result c.args.lo.least c.args.hi.least var low high c.least_of_both.ensures.lo c.least_of_both.ensures.hi l.least h.least;
  apart = λ no. absurd (false≢true no);
  wide = λ no. absurd (false≢true no);
  greatest = greatest_size_branch c.greatest_of_both.result c.args.lo.greatest c.args.hi.greatest var low high c.greatest_of_both.ensures.lo c.greatest_of_both.ensures.hi l.greatest h.greatest;
}
