use Rattle.std.proofs.Common.{refl}
use Rattle.std.specs.HashMap.{get}
use Rattle.package_index.specs.inner.Tables.{has_alias, AliasKey, same_alias_key}
use Rattle.package_index.proofs.Keys.{alias_agrees, alias_alike}
use Rattle.package_index.proofs.KnowsLaws.{knows-more, knows-all}
use Rattle.package_index.proofs.package.aliases_of.Goals as goal

pub loop-number-preserved : goal.loop-number-preserved
loop-number-preserved c =
    let alias = c.index-aliases-number.result in
    let key : AliasKey = (alias.«package», c.text.result) in
    knows-more has_alias same_alias_key c.args.aliases.now c.loop-number.number alias key (get same_alias_key c.loop-number.table) (get same_alias_key c.add.new.table) _ c.loop-number-test.true c.index-aliases-number.is
    (λ other. alias_agrees alias key other refl c.text.ensures.text) (alias_alike key) c.loop-number.invariant c.in_ok-add.ensures

pub returns : goal.returns
returns c = knows-all has_alias c.args.aliases.now c.loop-number.number (get same_alias_key c.loop-number.table) c.loop-number-test.false c.loop-number.invariant
