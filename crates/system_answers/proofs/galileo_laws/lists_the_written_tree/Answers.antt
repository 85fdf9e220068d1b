use Rattle.system_answers.proofs.WrittenPages.{written-page, written-stop}
use Rattle.system_answers.proofs.galileo_laws.lists_the_written_tree.Goals as goal

pub returns-clause-page : goal.returns-clause-page
returns-clause-page c = λ system rates target tree text page limit max_order sets is names are tree_is it few listing passes. written-page system is names rates are target tree tree_is text it few limit max_order page sets listing passes

pub returns-clause-refused : goal.returns-clause-refused
returns-clause-refused c = λ system rates target tree text limit max_order status is names are tree_is it few stops. written-stop system is names rates are target tree tree_is text it few limit max_order status stops
