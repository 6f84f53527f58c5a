use Rattle.device_slot.specs.Power.{unpowered_nand}
use Rattle.device_slot.proofs.PowerLemmas.{if_brought, if_unsettled_there, if_back_on, mid_back, mid_flash, mid_same, mid_still, unbrought, unsettled_of}
use Rattle.device_slot.proofs.StartedLemmas.{at_once, if_few_given, if_started_then, if_tried_then, mid_looked, tried_once}
use Rattle.device_slot.proofs.power.start.Goals as goal

pub returns-in-Some-clause-brings : goal.returns-in-Some-clause-brings
returns-in-Some-clause-brings g c =
    let s = g.N.PageSource in
    let un = c.in-Err.ensures.fault in
    let wants = c.in-Some.ensures.wants in
    if_brought s.view c.args.nand c.into_nand.result c.args.geometry.now c.args.capacity
    (mid_back s.view c.args.nand c.into_nand.result c.args.geometry.now c.args.capacity c.in-Some.stale c.in-Err.fault c.into_nand.ensures un wants c.in-Err.ensures.given)
    (mid_same s.view c.args.nand c.into_nand.result c.args.geometry.now c.args.capacity c.in-Some.stale c.in-Err.fault c.into_nand.ensures un wants)
    c.start_settled.result c.start_settled.ensures.brings

pub returns-in-Some-clause-fault : goal.returns-in-Some-clause-fault
returns-in-Some-clause-fault g c =
    let s = g.N.PageSource in
    let un = c.in-Err.ensures.fault in
    let wants = c.in-Some.ensures.wants in
    if_unsettled_there s.view c.args.nand c.into_nand.result c.args.geometry.now c.args.capacity
    (mid_back s.view c.args.nand c.into_nand.result c.args.geometry.now c.args.capacity c.in-Some.stale c.in-Err.fault c.into_nand.ensures un wants c.in-Err.ensures.given)
    (mid_flash s.view c.args.nand c.into_nand.result c.args.geometry.now c.args.capacity c.in-Some.stale c.in-Err.fault c.into_nand.ensures un wants)
    c.start_settled.result c.start_settled.ensures.fault

pub returns-in-Some-clause-given : goal.returns-in-Some-clause-given
returns-in-Some-clause-given g c =
    let s = g.N.PageSource in
    if_back_on s.view c.args.nand c.into_nand.result
    (mid_back s.view c.args.nand c.into_nand.result c.args.geometry.now c.args.capacity c.in-Some.stale c.in-Err.fault c.into_nand.ensures c.in-Err.ensures.fault c.in-Some.ensures.wants c.in-Err.ensures.given)
    c.start_settled.result c.start_settled.ensures.given

pub returns-in-Some-clause-still : goal.returns-in-Some-clause-still
returns-in-Some-clause-still g c =
    let s = g.N.PageSource in
    mid_still s.view c.args.nand c.into_nand.result c.args.geometry.now c.args.capacity c.in-Some.stale c.in-Err.fault c.into_nand.ensures c.in-Err.ensures.fault c.in-Some.ensures.wants c.start_settled.result

pub returns-in-None-clause-fault : goal.returns-in-None-clause-fault
returns-in-None-clause-fault g c =
    let s = g.N.PageSource in
    unsettled_of s.view c.args.nand c.args.geometry.now c.args.capacity c.in-Err.fault
    (unbrought s.view c.args.nand c.args.geometry.now c.args.capacity c.in-Err.fault c.in-Err.ensures.fault c.in-None.ensures.none)

pub returns-in-Some-clause-started : goal.returns-in-Some-clause-started
returns-in-Some-clause-started g c =
    let s = g.N.PageSource in
    if_started_then s.view c.args.nand c.into_nand.result c.args.geometry.now c.args.capacity
    (mid_looked s.view c.args.nand c.into_nand.result c.args.geometry.now c.in-Err.fault c.into_nand.ensures c.in-Err.ensures.looked_given)
    (mid_flash s.view c.args.nand c.into_nand.result c.args.geometry.now c.args.capacity c.in-Some.stale c.in-Err.fault c.into_nand.ensures c.in-Err.ensures.fault c.in-Some.ensures.wants)
    c.start_settled.result c.start_settled.ensures.started

pub returns-in-Some-clause-looked_given : goal.returns-in-Some-clause-looked_given
returns-in-Some-clause-looked_given g c =
    if_few_given g.N.PageSource.view c.args.nand c.args.geometry.now c.args.capacity c.in-Some.stale c.in-Err.fault c.in-Err.ensures.fault c.in-Some.ensures.wants c.start_settled.result

pub returns-in-Ok-clause-started : goal.returns-in-Ok-clause-started
returns-in-Ok-clause-started g c =
    at_once g.N.PageSource.view c.args.nand c.args.geometry.now c.args.capacity c.in-Ok.device c.in-Ok.ensures.capacity c.in-Ok.ensures.looked c.in-Ok.ensures.pages

pub returns-in-Some-clause-tried : goal.returns-in-Some-clause-tried
returns-in-Some-clause-tried g c =
    let s = g.N.PageSource in
    if_tried_then s.view c.args.geometry.now c.args.nand c.into_nand.result
    (mid_looked s.view c.args.nand c.into_nand.result c.args.geometry.now c.in-Err.fault c.into_nand.ensures c.in-Err.ensures.looked_given)
    c.start_settled.result c.start_settled.ensures.tried

pub returns-in-None-clause-tried : goal.returns-in-None-clause-tried
returns-in-None-clause-tried g c =
    tried_once g.N.PageSource.view c.args.geometry.now c.args.nand (unpowered_nand c.in-Err.fault) c.in-Err.ensures.looked_given
