use Rattle.std.proofs.Common.{ap, Err}
use Rattle.disk_damage.proofs.FoundLemmas.{adds_found, list_stays, unfound_so}
use Rattle.disk_damage.proofs.mounted.mount_and_find.Goals as goal

pub returns-in-Ok-find_lost-clause-adds : goal.returns-in-Ok-find_lost-clause-adds
returns-in-Ok-find_lost-clause-adds g c =
    adds_found g.S.Store.held g.S.Store.honest c.args.store c.in-Ok.mounted.0 _ c.args.mark c.args.lost.now c.find_lost.new.lost c.in-Ok.ensures.back c.in-Ok.ensures.mounted c.in-Ok-find_lost.ensures.adds

pub returns-in-Err-find_lost-clause-fault : goal.returns-in-Err-find_lost-clause-fault
returns-in-Err-find_lost-clause-fault g c =
    rw c.unfound.ensures (unfound_so g.S.Store.held g.S.Store.honest g.S.Store.failed c.args.store c.in-Ok.mounted.0 c.find_lost.new.store _ c.in-Err-find_lost.fault c.in-Ok.ensures.back
    c.in-Ok.ensures.mounted c.in-Err-find_lost.ensures.looks (λ is. (c.in-Err-find_lost.ensures.unasked (ap Err is)).0) (λ is. c.in-Err-find_lost.ensures.rose (ap Err is)))

pub returns-in-Err-find_lost-clause-untouched : goal.returns-in-Err-find_lost-clause-untouched
returns-in-Err-find_lost-clause-untouched g c =
    rw c.unfound.ensures (list_stays c.in-Err-find_lost.fault c.args.lost.now c.find_lost.new.lost (λ is. (c.in-Err-find_lost.ensures.unasked (ap Err is)).1))
