use Rattle.std.proofs.Common.{rules, ◌≡◌, sym, [], take, replicate}
use Rattle.to_csv.specs.Text.{refusal_text}
use Rattle.to_csv.specs.Written.{rows_of, line_of}
use Rattle.to_csv.proofs.WrittenLaws.{rows_told, no_line_told, no_rows_told, line_told}
use Rattle.to_csv.proofs.ToCsvWritingProgram.reply.Goals as goal

pub returns-in-Ok-clause-output : goal.returns-in-Ok-clause-output
returns-in-Ok-clause-output g c =
    let told : take c.in-Ok.length c.write_text.new.place ≡ rows_of c.args.sequence.now =
    rows_told c.args.sequence.now (replicate 208896 0) c.write_text.new.place c.in-Ok.length (search rules) c.in-Ok.ensures.answer c.write_text.ensures.place in
    rw (sym told) c.write.ensures.output

pub returns-in-Ok-clause-line : goal.returns-in-Ok-clause-line
returns-in-Ok-clause-line g c =
    let told : [] ≡ line_of c.args.sequence.now = no_line_told c.args.sequence.now (replicate 208896 0) c.write_text.new.place c.in-Ok.length (search rules) c.in-Ok.ensures.answer c.write_text.ensures.place in
    rw (sym told) c.write.ensures.line

pub returns-in_ok-line-in-Err-clause-output : goal.returns-in_ok-line-in-Err-clause-output
returns-in_ok-line-in-Err-clause-output g c =
    let told : [] ≡ rows_of c.args.sequence.now = no_rows_told c.args.sequence.now (replicate 208896 0) c.write_text.new.place c.in-Err.refusal (search rules) c.in-Err.ensures.answer c.write_text.ensures.place in
    rw (sym told) c.write-in-Err.ensures.output

pub returns-in_ok-line-in-Err-clause-line : goal.returns-in_ok-line-in-Err-clause-line
returns-in_ok-line-in-Err-clause-line g c =
    let told : refusal_text c.in-Err.refusal ≡ line_of c.args.sequence.now =
    line_told c.args.sequence.now (replicate 208896 0) c.write_text.new.place c.in-Err.refusal (search rules) c.in-Err.ensures.answer c.write_text.ensures.place in
    let said : c.as_str.result.now ≡ refusal_text c.in-Err.refusal = search rules in
    rw (sym told, sym said) c.write-in-Err.ensures.line
