use Rattle.std.proofs.Common.{◌≡◌, drop}
use Rattle.console.specs.Step.{head_after, seal_after}
use Rattle.console.proofs.Console.step.Given as goal

-- the words to come take the head and the seal where the whole row takes them
abbrev pub invariant-loop-word : goal.invariant-loop-word
invariant-loop-word l = record {
  heads : head_after l.head (drop l.word-index l.words) ≡ head_after l.fn.self.head l.words;
  seals : seal_after l.seal (drop l.word-index l.words) ≡ seal_after l.fn.self.seal l.words;
}
