use Rattle.std.proofs.Common.{rules, ◌≡◌, sym, [], take, replicate}
use Rattle.from_csv.specs.Text.{refusal_text}
use Rattle.from_csv.specs.Written.{records_of, line_of}
use Rattle.from_csv.proofs.WrittenLaws.{records_told, no_line_told, no_records_told, line_told}
use Rattle.from_csv.proofs.FromCsvWritingProgram.reply.Goals as goal

pub returns-in-Ok-clause-output : goal.returns-in-Ok-clause-output
returns-in-Ok-clause-output g c =
    let told : take c.in-Ok.length c.read_text.new.place ≡ records_of c.args.text.now =
    records_told c.args.text.now (replicate 65536 0) c.read_text.new.place c.in-Ok.length (search rules) (search rules) (search rules) in
    rw (sym told) c.write.ensures.output

pub returns-in-Ok-clause-line : goal.returns-in-Ok-clause-line
returns-in-Ok-clause-line g c =
    let told : [] ≡ line_of c.args.text.now = no_line_told c.args.text.now (replicate 65536 0) c.read_text.new.place c.in-Ok.length (search rules) (search rules) (search rules) in
    rw (sym told) c.write.ensures.line

pub returns-in_ok-line-in-Err-clause-output : goal.returns-in_ok-line-in-Err-clause-output
returns-in_ok-line-in-Err-clause-output g c =
    let told : [] ≡ records_of c.args.text.now = no_records_told c.args.text.now (replicate 65536 0) c.read_text.new.place c.in-Err.refused (search rules) (search rules) (search rules) in
    rw (sym told) c.write-in-Err.ensures.output

pub returns-in_ok-line-in-Err-clause-line : goal.returns-in_ok-line-in-Err-clause-line
returns-in_ok-line-in-Err-clause-line g c =
    let told : refusal_text c.in-Err.refused ≡ line_of c.args.text.now =
    line_told c.args.text.now (replicate 65536 0) c.read_text.new.place c.in-Err.refused (search rules) (search rules) (search rules) in
    let said : c.as_str.result.now ≡ refusal_text c.in-Err.refused = search rules in
    rw (sym told, sym said) c.write-in-Err.ensures.line
