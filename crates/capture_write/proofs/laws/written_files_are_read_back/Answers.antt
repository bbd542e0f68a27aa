use Rattle.capture_write.proofs.HeldLaws.{fit_where_held, written_read_back}
use Rattle.capture_write.proofs.laws.written_files_are_read_back.Goals as goal

pub returns-clause-held : goal.returns-clause-held
returns-clause-held c = fit_where_held

pub returns-clause-read_back : goal.returns-clause-read_back
returns-clause-read_back c = written_read_back
