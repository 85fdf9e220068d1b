-- What values of the code stand for.
use Rattle.fta_words.specs.declared.command.Request.{Request as RequestInCode}
use Rattle.fta_words.specs.Words.{Request}

-- a request
abbrev pub request_shown : RequestInCode → Request
request_shown request =
    record {
      kind = request.kind;
      root = request.root;
      target = request.target;
      number = request.number;
      of = request.of;
      files = request.files;
      options = request.options;
    }
