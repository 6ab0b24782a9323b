use Rattle.std.proofs.Common.{◌≡◌, ◌∙◌, rules}
use Rattle.elm_make.proofs.Printed.{put_line, line_put}
use Rattle.elm_make.proofs.lines.compiled.Goals as goal

pub returns : goal.returns
returns c =
    let put : c.into_bytes.result.items ≡ put_line c.args.file.now c.args.modules = search rules in
    put ∙ line_put c.args.file.now c.args.modules
