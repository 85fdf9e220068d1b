use Rattle.std.proofs.Common.{rules}
use Rattle.cutset_lister.proofs.Going.{next_left, next_same}
use Rattle.cutset_lister.proofs.walk.Listing.first_family.Goals as goal

pub returns-clause-same : goal.returns-clause-same
returns-clause-same c = rw (← c.self.view_is, ← c.as_slice.ensures.value) (λ store sound started.
    next_same store (record { parts = c.as_slice.result.now; begun = c.self.inside.begun; path = c.self.inside.path; rest = c.self.inside.rest }) c.next_part-begun.result.0 c.go_back-family.new.path c.go_back-family.result c.next_part-begun.result.1
    c.go_back-family.ensures.same (c.go_back-family.ensures.end (search rules)) started (c.next_part-begun.ensures.found store started.family sound started.parts) (c.next_part-begun.ensures.size store started.family sound started.parts))

pub returns-clause-left : goal.returns-clause-left
returns-clause-left c = rw (← c.self.view_is, ← c.as_slice.ensures.value) (λ store sound.
    next_left store (record { parts = c.as_slice.result.now; begun = c.self.inside.begun; path = c.self.inside.path; rest = c.self.inside.rest }) c.next_part-begun.result.0 c.go_back-family.new.path c.go_back-family.result c.next_part-begun.result.1
    sound c.go_back-family.ensures.same (search rules) (c.go_back-family.ensures.end (search rules)) (c.next_part-begun.ensures.left store sound))
