use Rattle.std.proofs.Common.{◌-◌, length}
use Rattle.plain_listing.proofs.+list_with.Given as goal

abbrev pub decreases-list_with : goal.decreases-list_with
decreases-list_with l = length l.asked.now.system.now.events - l.next
