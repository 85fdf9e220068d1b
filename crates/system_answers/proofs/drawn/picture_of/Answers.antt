use Rattle.std.proofs.Common.{Bool, List, ℕ, false, sym, subst}
use Rattle.phases.specs.inner.Meets.{IsMemory, MeetsBut}
use Rattle.phases.specs.Phases.{Passes}
use Rattle.phases.proofs.Steps.{meets_later}
use Rattle.fault_system.specs.Systems.{System}
use Rattle.property_reader.specs.declared.rate.Rate.{Rate}
use Rattle.galileo_reader.specs.TreeSystems.{system_of, target_of as top_of_tree}
use Rattle.system_answers.specs.Texts.{drawn_form, drawn_format, drawn_rates, formed_tree, slice_of}
use Rattle.system_answers.specs.declared.form.TreeForm.{TreeForm}
use Rattle.system_answers.specs.declared.form.TreeFormat.{TreeFormat}
use Rattle.system_answers.specs.inner.Forms.{IsWritable, tree_bytes}
use Rattle.system_answers.proofs.drawn.picture_of.Goals as goal

pub formed-requires-clause-writable : goal.formed-requires-clause-writable
formed-requires-clause-writable c =
    let rates = c.in_ok-rates.rates in
    subst (λ (format : TreeFormat). IsWritable format c.in_ok-system.system rates) (sym c.drawn_format-format.ensures)
    (subst (λ (system : System). IsWritable (drawn_format c.args.exchanged) system rates) (sym c.in_ok-system.ensures.system) c.in_ok-rates.ensures.writable)

pub returns : goal.returns
returns c =
    let tree = c.args.tree.now in
    let top = top_of_tree tree tree.top in
    let form = drawn_form c.args.exchanged c.args.merged c.args.legend in
    let part = c.in_ok-part.part in
    let passes = subst (λ (system : System). Passes (slice_of top system) part) c.in_ok-system.ensures.system
    (subst (λ (number : ℕ). Passes (slice_of number c.in_ok-system.system) part) c.in_ok-system.ensures.target c.in_ok-part.ensures) in
    let formed = subst (λ (format : TreeFormat). MeetsBut IsMemory tree_bytes (formed_tree part.target (record { format = format; merged = c.args.merged; rated = false; legend = c.args.legend }) c.in_ok-system.system c.in_ok-rates.rates) c.formed.result) c.drawn_format-format.ensures c.formed.ensures in
    let here = subst (λ (number : ℕ). MeetsBut IsMemory tree_bytes (formed_tree number form c.in_ok-system.system c.in_ok-rates.rates) c.formed.result) c.in_ok-part.ensures.passed.is_slice.target_is formed in
    let at = subst (λ (number : ℕ). MeetsBut IsMemory tree_bytes (formed_tree number form c.in_ok-system.system c.in_ok-rates.rates) c.formed.result) c.in_ok-system.ensures.target here in
    let in_system = subst (λ (system : System). MeetsBut IsMemory tree_bytes (formed_tree top form system c.in_ok-rates.rates) c.formed.result) c.in_ok-system.ensures.system at in
    let its = subst (λ (rates : List Rate). MeetsBut IsMemory tree_bytes (formed_tree top form (system_of tree) rates) c.formed.result) c.in_ok-rates.ensures.rates in_system in
    meets_later IsMemory tree_bytes (slice_of top (system_of tree)) (λ _. formed_tree top form (system_of tree) (drawn_rates c.args.exchanged tree)) part c.formed.result (λ s memory. memory) passes its
