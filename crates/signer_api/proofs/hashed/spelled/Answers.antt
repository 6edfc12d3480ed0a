use Rattle.std.proofs.Common.{rules, ◌≡◌, length}
use Rattle.signer_api.proofs.BlockLemmas.{key-put}
use Rattle.signer_api.proofs.hashed.spelled.Goals as goal

pub returns : goal.returns
returns c =
    let long : length c.args.modulus.now ≡ 256 = search rules in
    let whole : length c.put-3.new.bytes ≡ 270 = search rules in
    key-put _ _ _ c.args.modulus.now long whole c.put.ensures c.put-2.ensures c.put-3.ensures
