-- Where the latest ACT is far enough back, every one is.
use borrow.Author.Tests.{leb-true}
use Rattle.device.proofs.Tests.{told}
use Rattle.tape_legality.proofs.Hold.{R7-latest}
use Rattle.tape_legality.proofs.all_apart.Goals as goal

pub returns-then-reached : goal.returns-then-reached
returns-then-reached c =
    let far = leb-true _ _ (told c.reached.ensures c.if-reached.true) in
    R7-latest c.args.c c.args.past.now.last c.args.past.now.clock c.args.own (rw (← c.latest_act.ensures) far)
