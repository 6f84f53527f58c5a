use Rattle.device_slot.proofs.PowerLemmas.{if_brought_with, if_unbrought_with, if_back_on, mid_back, mid_flash, unbrought, wanted_stale}
use Rattle.device_slot.proofs.power.start_either.Goals as goal

pub returns-in-Some-clause-brings : goal.returns-in-Some-clause-brings
returns-in-Some-clause-brings g c =
    let s = g.N.PageSource in
    let un = c.in-Err.ensures.fault in
    let wants = c.in-Some.ensures.wants in
    if_brought_with s.view c.args.nand c.into_nand.result c.args.geometry.now c.args.capacity c.in-Some.stale c.in-Some.ensures.more
    (mid_back s.view c.args.nand c.into_nand.result c.args.geometry.now c.args.capacity c.in-Some.stale c.in-Err.fault c.into_nand.ensures un wants c.in-Err.ensures.given)
    (mid_flash s.view c.args.nand c.into_nand.result c.args.geometry.now c.args.capacity c.in-Some.stale c.in-Err.fault c.into_nand.ensures un wants)
    (wanted_stale s.view c.args.nand c.args.geometry.now c.args.capacity c.in-Err.fault c.in-Some.stale un wants)
    c.look-in-Some.result c.look-in-Some.ensures.brings c.look-in-Some.ensures.pages

pub returns-in-Some-clause-fault : goal.returns-in-Some-clause-fault
returns-in-Some-clause-fault g c =
    let s = g.N.PageSource in
    let un = c.in-Err.ensures.fault in
    let wants = c.in-Some.ensures.wants in
    if_unbrought_with s.view c.args.nand c.into_nand.result c.args.geometry.now c.args.capacity c.in-Some.stale c.in-Some.ensures.more
    (mid_back s.view c.args.nand c.into_nand.result c.args.geometry.now c.args.capacity c.in-Some.stale c.in-Err.fault c.into_nand.ensures un wants c.in-Err.ensures.given)
    (mid_flash s.view c.args.nand c.into_nand.result c.args.geometry.now c.args.capacity c.in-Some.stale c.in-Err.fault c.into_nand.ensures un wants)
    (wanted_stale s.view c.args.nand c.args.geometry.now c.args.capacity c.in-Err.fault c.in-Some.stale un wants)
    c.look-in-Some.result c.look-in-Some.ensures.fault

pub returns-in-Some-clause-given : goal.returns-in-Some-clause-given
returns-in-Some-clause-given g c =
    let s = g.N.PageSource in
    if_back_on s.view c.args.nand c.into_nand.result
    (mid_back s.view c.args.nand c.into_nand.result c.args.geometry.now c.args.capacity c.in-Some.stale c.in-Err.fault c.into_nand.ensures c.in-Err.ensures.fault c.in-Some.ensures.wants c.in-Err.ensures.given)
    c.look-in-Some.result c.look-in-Some.ensures.given

pub returns-in-None-clause-fault : goal.returns-in-None-clause-fault
returns-in-None-clause-fault g c =
    let s = g.N.PageSource in
    unbrought s.view c.args.nand c.args.geometry.now c.args.capacity c.in-Err.fault c.in-Err.ensures.fault c.in-None.ensures.none
