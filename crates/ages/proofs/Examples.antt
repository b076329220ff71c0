-- The worked examples of the rules, read off the ages: the same rules are broken, about the same banks, and the same rows are open.
use mathlib.Core.Path.{◌≡◌, refl}
use mathlib.Core.List.{List, [], ◌∷◌, map}
use lib.ListN.{take}
use Rattle.config.specs.declared.Config.{Config}
use Rattle.command.specs.declared.Command.{Command}
use Rattle.device.specs.View.{marks_of, row_of}
use Rattle.device.specs.Rules.{R7, R12-open, R13-open, R14, R16, requirements, legal_of, carried_of}
use Rattle.device.proofs.Examples.{Broken, broken, Run, runs, wanted_of, wanted, commands, tries, device, four, instants, rows_of}
use Rattle.ages.specs.declared.Past.{Past}
use Rattle.ages.specs.Ages.{fresh_of, open_in, row_in, open_rows, row_at, by_ages, aged_of, ages_after, sent_of}
use Rattle.ages.proofs.Slot.{tried_of}

broken_by : Config → Past → List Command → List Broken
broken_by c p [] = []
broken_by c p (k ∷ ks) = broken (requirements c (by_ages c p) k) ∷ broken_by c (tried_of c p k) ks

broken_by_ages : map (λ (r : Run). broken_by r.config fresh_of (commands 1 r.tries)) runs ≡ map wanted_of runs
unfolding runs tries device commands wanted wanted_of broken_by tried_of carried_of sent_of ages_after aged_of open_rows row_in open_in fresh_of legal_of requirements R7 R12-open R13-open R14 R16 marks_of row_of
broken_by_ages = refl

past_after : Past → List Command → Past
past_after p [] = p
past_after p (k ∷ ks) = past_after (tried_of (device 2 9) p k) ks

rows_by_ages : map (λ n. four (row_at (past_after fresh_of (take n (commands 1 tries))))) instants ≡ rows_of
unfolding instants rows_of past_after tries device commands tried_of carried_of sent_of ages_after aged_of open_rows row_in open_in fresh_of legal_of requirements R7 R12-open R13-open R14 R16 marks_of row_of
rows_by_ages = refl
