use Rattle.std.proofs.Common.{◌≡◌, true}
use Rattle.cert_obj.specs.Values.{is_uri}
use Rattle.cert_obj.proofs.Leaves.{uri-utf8}
use Rattle.cert_obj.proofs.uris.uri_text.Goals as goal

pub returns-in-Err : goal.returns-in-Err
returns-in-Err c =
    let ascii : is_uri c.args.bytes.now ≡ true = cc in
    absurd (c.in-Err.ensures.cases.0 (uri-utf8 c.args.bytes.now ascii))
