use Rattle.desk.proofs.Served.{settles, settle_report, settle_desk}
use borrow.Author.Rules.{rules}
use Rattle.desk.proofs.settle.Goals as goal

pub report_at-report-requires : goal.report_at-report-requires
report_at-report-requires c = search (rules, settles)

pub confirm-requires : goal.confirm-requires
confirm-requires c = search (rules, settles)

pub returns : goal.returns
returns c =
    (search (rules, settle_report), settle_desk _ _ _ _ c.requires _ _ _ c.correct-corrected.ensures _ c.confirm.ensures)
