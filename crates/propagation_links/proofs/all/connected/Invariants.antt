use Rattle.std.proofs.Common.{◌≡◌, [], take}
use Rattle.plain_values.specs.Numbered.{numbered_from}
use Rattle.noted_refusals.specs.Groups.{first_group}
use Rattle.propagation_links.specs.Links.{component_links}
use Rattle.propagation_links.specs.Refused.{component_groups}
use Rattle.propagation_links.proofs.all.connected.Given as goal

abbrev pub invariant-loop-number : goal.invariant-loop-number
invariant-loop-number l = record {
  links : l.links ≡ numbered_from (component_links l.pointed) 0 (take l.number l.pointed.instance.components);
  clear : first_group (numbered_from (component_groups l.pointed) 0 (take l.number l.pointed.instance.components)) ≡ [];
}
