-- What the words of a contract see of a token.
use Rattle.page_tokens.specs.Forms.{Said}
use Rattle.page_tokens.specs.declared.token.Token.{Token}

-- what it says
abbrev pub said : Token → Said
said token = record { digits = token.digits; rest = token.rest.now }
