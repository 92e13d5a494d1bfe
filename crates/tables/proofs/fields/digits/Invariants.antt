use Rattle.std.proofs.Common.{◌≡◌, ◌+◌, ◌-◌, ◌^◌, ◌≤◌, drop, length}
use Rattle.std.specs.List.{prefix_len}
use Rattle.std.specs.Char.{is_ascii_digit}
use Rattle.tables.specs.Numbers.{read_digits}
use Rattle.tables.proofs.fields.digits.Given as goal

abbrev pub invariant-loop-rest : goal.invariant-loop-rest
invariant-loop-rest l =
    record {
      small : l.value ≤ 2 ^ 32;
      value : read_digits l.value l.rest ≡ read_digits 0 l.text;
      within : length l.rest ≤ length l.text;
      long : length l.text - length l.rest + prefix_len is_ascii_digit l.rest ≡ prefix_len is_ascii_digit l.text;
      rest : drop (prefix_len is_ascii_digit l.rest) l.rest ≡ drop (prefix_len is_ascii_digit l.text) l.text;
    }

abbrev pub decreases-loop-rest : goal.decreases-loop-rest
decreases-loop-rest l = length l.rest
