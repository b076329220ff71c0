-- The definition goes on as the code does, with one digit fewer at each call.
use Rattle.text.proofs.+spelled.Given as goal

abbrev pub decreases-spelled : goal.decreases-spelled
decreases-spelled l = l.most
