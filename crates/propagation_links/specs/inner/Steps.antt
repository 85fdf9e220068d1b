-- What the steps of gathering links owe each other.
use Rattle.std.specs.Prelude.{◌≡◌, ◌≤◌, ℕ, List, ◌++◌, length, None}
use Rattle.plain_values.specs.Order.{least}
use Rattle.profiles.specs.declared.profile.Profile.{Profile}
use Rattle.component_extension.specs.declared.effective.Effective.{Effective}
use Rattle.instantiator.specs.Whole.{Instance}
use Rattle.propagation_links.specs.declared.further.Further.{Further}
use Rattle.propagation_links.specs.declared.link.Link.{Link}
use Rattle.propagation_links.specs.Bound.{all_carried, all_functions, all_held}
use Rattle.propagation_links.specs.Ends.{Pointed}
use Rattle.propagation_links.specs.Links.{connected, links_in, only_second}
use Rattle.propagation_links.specs.Refused.{refusals_in, first_fault}

-- The links of a component are added, of which nothing is refused.
pub record Linked (pointed : Pointed) (number : ℕ) (effective : Effective) (before after : List Link) : Type 0 where
  pub links : after ≡ before ++ links_in pointed number effective
  pub accepted : least (refusals_in pointed number effective) ≡ None

-- These are the links of all connections and paths, of which nothing is refused.
pub record AllLinked (pointed : Pointed) (links : List Link) : Type 0 where
  pub are : links ≡ connected pointed
  pub accepted : first_fault pointed ≡ None

-- These are the bindings that count under the second profile alone, and nothing under the first.
pub record IsFurther (profile : Profile) (instance : Instance) (further : Further) : Type 0 where
  pub held : further.held ≡ only_second profile (all_held instance)
  pub functions : further.functions ≡ only_second profile (all_functions instance)
  pub carried : further.carried ≡ only_second profile (all_carried instance)

-- There are at most three and one for each component, and one for each connection.
pub record AreFew (further : Further) : Type 0 where
  pub held : length further.held ≤ 12288
  pub functions : length further.functions ≤ 8192
  pub carried : length further.carried ≤ 1048576
