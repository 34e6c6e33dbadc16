use Rattle.cues_delta.proofs.Fits.{bytes_fit}
use borrow.Author.Rules.{rules}
use Rattle.cues_delta.proofs.field_bytes.Goals as goal

pub returns : goal.returns
returns c = search (rules, bytes_fit)
