use Rattle.std.proofs.Common.{length}
use Rattle.file_digests.proofs.+add_digests.Given as goal

abbrev pub decreases-add_digests : goal.decreases-add_digests
decreases-add_digests l = length l.names.now
