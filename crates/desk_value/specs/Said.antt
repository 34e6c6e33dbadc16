-- A call's `Result`, read as the answer that its definition gives: 0 beside what it found, or the number of its refusal beside the desk as it was
-- given. No two of them read alike, so the answer is determined.
use Rattle.std.specs.Prelude.{Result, Ok, Err}
use Rattle.frame_info.specs.Frame.{null_frame}
use Rattle.frame_info.specs.Refusal.{done, number_of, number_given}
use Rattle.frame_info.specs.declared.refusal.Refusal.{Refusal}
use Rattle.console.specs.Step.{start}
use Rattle.desk.specs.Calls.{report_at}
use Rattle.desk_value.specs.declared.Desk.{Desk}
use Rattle.desk_value.specs.declared.OpenedDesk as declared_opened
use Rattle.desk_value.specs.declared.TakenDesk as declared_taken
use Rattle.desk_value.specs.declared.AdvancedDesk as declared_advanced
use Rattle.desk_value.specs.declared.ShownDesk as declared_shown
use Rattle.desk_value.specs.Answer.{OpenedDesk, TakenDesk, AdvancedDesk, ShownDesk}
use Rattle.desk_value.specs.Value.{blanks}

abbrev pub opened_said : declared_opened.OpenedDesk → OpenedDesk
opened_said o = record { no = number_given o.refused; desk = o.desk }

abbrev pub taken_said : Desk → Result declared_taken.TakenDesk Refusal → TakenDesk
taken_said y (Ok t) = record { no = done; place = t.place; desk = t.desk }
taken_said y (Err e) = record { no = number_of e; place = null_frame; desk = y }

abbrev pub advanced_said : Desk → Result declared_advanced.AdvancedDesk Refusal → AdvancedDesk
advanced_said y (Ok a) = record { no = done; report = a.report; served = a.served; statuses = a.statuses; desk = a.desk }
advanced_said y (Err e) = record { no = number_of e; report = report_at 0 0; served = blanks; statuses = blanks; desk = y }

abbrev pub shown_said : Result declared_shown.ShownDesk Refusal → ShownDesk
shown_said (Ok a) = record { no = done; words = a.words; console = a.console }
shown_said (Err e) = record { no = number_of e; words = blanks; console = start }
