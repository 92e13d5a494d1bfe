use Rattle.std.proofs.Common.{rules}
use Rattle.tables.proofs.EndsLaws.{field-short}
use Rattle.tables.proofs.fields.first_field.Goals as goal

pub overflow_sub-text : goal.overflow_sub-text
overflow_sub-text c = search (rules, field-short)
