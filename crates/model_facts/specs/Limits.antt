-- How many facts and events a model may have.
use Rattle.std.specs.Prelude.{ℕ, nat_lt, List, length, Option}
use Rattle.plain_values.specs.declared.refusal.Code.TheVariants.{TooManyEvents, TooManyFacts}
use Rattle.plain_values.specs.declared.refusal.Place.TheVariants.{Words}
use Rattle.plain_values.specs.declared.refusal.Refusal.{Refusal}
use Rattle.plain_values.specs.Refusal.{over_limit}
use Rattle.model_facts.specs.Assembly.{Assembly, universe_of}
use Rattle.model_facts.specs.Facts.{events_of, facts_of}
use Rattle.model_facts.specs.declared.keys.EventKey.{EventKey}
use Rattle.model_facts.specs.declared.keys.FactKey.{FactKey}

-- how many facts there may be
abbrev pub most_facts : ℕ
most_facts = 262144

-- how many events there may be
abbrev pub most_events : ℕ
most_events = 4096

-- M6 where these facts are too many
abbrev pub many_facts : List FactKey → Option Refusal
many_facts facts = over_limit (nat_lt most_facts (length facts)) TooManyFacts Words

-- M6 where a model has too many facts
abbrev pub facts_refusal : Assembly → Option Refusal
facts_refusal assembly = many_facts (facts_of assembly (universe_of assembly))

-- M7 where these events are too many
abbrev pub many_events : List EventKey → Option Refusal
many_events events = over_limit (nat_lt most_events (length events)) TooManyEvents Words

-- M7 where a model has too many events
abbrev pub events_refusal : Assembly → Option Refusal
events_refusal assembly = many_events (events_of assembly)
