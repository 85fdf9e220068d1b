use Rattle.phases.specs.inner.Meets.{IsMemory}
use Rattle.phases.specs.Phases.{chains}
use Rattle.phases.proofs.Steps.{◌beyond◌, ends, exits, meets_later}
use Rattle.page_tokens.specs.inner.Shown.{said}
use Rattle.page_tokens.specs.Starts.{fresh, page_start, start_in, token_of}
use Rattle.page_tokens.proofs.token.read_page_token.Goals as goal

pub returns-in_err-check_key : goal.returns-in_err-check_key
returns-in_err-check_key c = exits IsMemory (λ start. start) (page_start c.args.key.now c.args.text.now c.args.system.now) _ _ c.from_residual-in_err-check_key.ensures.1 (c.in_ok-token.ensures beyond ends c.in_err-check_key.ensures)

pub returns : goal.returns
returns c =
    let key = c.args.key.now in
    let system = c.args.system.now in
    let token = said c.in_ok-token.token in
    meets_later IsMemory (λ start. start) (token_of c.args.text.now) (λ its. chains (fresh key its) (λ _. start_in its system)) token c.find_start.result (λ s memory. memory) c.in_ok-token.ensures
    (meets_later IsMemory (λ start. start) (fresh key token) (λ _. start_in token system) tt c.find_start.result (λ s memory. memory) c.in_ok-check_key.ensures c.find_start.ensures)
