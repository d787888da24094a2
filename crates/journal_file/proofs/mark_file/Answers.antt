-- `mark_file` meets its contract: the records are those of the chunks.
use Rattle.std.proofs.Common.{◌/◌, length}
use Rattle.journal_file.proofs.Steps.{records_of_chunks}
use Rattle.journal_file.proofs.mark_file.Goals as goal

pub returns : goal.returns
returns c = rw (← records_of_chunks (length c.args.journal.now / 11) c.args.journal.now, ← c.as_chunks.ensures.front) c.mark_all.ensures
