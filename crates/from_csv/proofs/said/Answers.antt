use Rattle.std.proofs.Common.{rules, ap, ◌∙◌, ◌++◌}
use Rattle.std.proofs.lemmas.Fmt.{contents_after_writes}
use Rattle.from_csv.specs.Text.{refusal_text}
use Rattle.from_csv.proofs.said.Goals as goal

pub returns-clause-line : goal.returns-clause-line
returns-clause-line c =
    let text = refusal_text c.args.refused in
    contents_after_writes _ (λ said. said.bytes) (λ said bytes after wrote. wrote) c.new-said.result text c.write.new.self (search rules)
    ∙ ap (λ bytes. bytes ++ text) c.new-said.ensures
