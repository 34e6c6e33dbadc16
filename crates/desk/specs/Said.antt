-- A call's `Result`, read as the answer that its definition gives: 0 beside what it found, or the number of its refusal beside the desk as it was
-- given. No two of them read alike, so the answer is determined.
use Rattle.std.specs.Prelude.{ℕ, ℤ, Result, Ok, Err}
use Rattle.frame_info.specs.Frame.{null_frame}
use Rattle.frame_info.specs.Refusal.{done, number_of, number_given}
use Rattle.frame_info.specs.declared.refusal.Refusal.{Refusal}
use Rattle.console.specs.declared.Console.{Console}
use Rattle.console.specs.Step.{start}
use Rattle.desk.specs.declared.DeskState.{DeskState}
use Rattle.desk.specs.declared.Opened as declared_opened
use Rattle.desk.specs.declared.Settled.{Settled}
use Rattle.desk.specs.Answer.{Opened, Taken, Advanced, Shown, Logged}
use Rattle.desk.specs.Calls.{report_at}

abbrev pub opened_said : declared_opened.Opened → Opened
opened_said o = record { no = number_given o.refused; desk = o.desk }

abbrev pub taken_said : Result ℤ Refusal → Taken
taken_said (Ok f) = record { no = done; place = f }
taken_said (Err e) = record { no = number_of e; place = null_frame }

abbrev pub advanced_said : DeskState → Result Settled Refusal → Advanced
advanced_said y (Ok a) = record { no = done; report = a.report; desk = a.desk }
advanced_said y (Err e) = record { no = number_of e; report = report_at 0 0; desk = y }

abbrev pub shown_said : Result Console Refusal → Shown
shown_said (Ok c) = record { no = done; console = c }
shown_said (Err e) = record { no = number_of e; console = start }

abbrev pub logged_said : Result ℕ Refusal → Logged
logged_said (Ok n) = record { no = done; count = n }
logged_said (Err e) = record { no = number_of e; count = 0 }
