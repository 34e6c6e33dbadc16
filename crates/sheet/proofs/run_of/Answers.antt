use borrow.Author.Tests.{tests}
use Rattle.std.proofs.Common.{rules}
use Rattle.std.proofs.lemmas.Iterator.{YieldsList-from_slice}
use Rattle.std.proofs.lemmas.Iterator.Search.{position_from_yields_List}
use Rattle.sheet.specs.Steps.{ends_run}
use Rattle.sheet.proofs.Fielding.{run_found}
use Rattle.sheet.proofs.run_of.Goals as goal

pub returns : goal.returns
returns c =
    run_found c.args.spaces c.args.s.now _ _
    (position_from_yields_List (λ b. ends_run b c.args.spaces) _ _ c.position.result c.position.ensures.ran (YieldsList-from_slice c.args.s.now cc) (λ x b q k. search (rules, tests)))
    c.unwrap_or.ensures
