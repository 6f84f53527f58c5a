use Rattle.std.proofs.Common.{inl}
use Rattle.std.proofs.lemmas.Result.{err_from_is_err_and}
use Rattle.device_slot.specs.Power.{unpowered_nand}
use Rattle.device_slot.proofs.PowerLemmas.{brought, mounted_begun, unsettled_at, flushed_same, flushed_back, flushed_bus, flushed_rose, err_is}
use Rattle.device_slot.proofs.StartedLemmas.{looked_once, tried_flush}
use Rattle.device_slot.proofs.power.settle.Goals as goal

pub returns-in_err-device-clause-fault : goal.returns-in_err-device-clause-fault
returns-in_err-device-clause-fault g c =
    let p = err_from_is_err_and c.from_residual.result c.from_residual.ensures.1 in
    rw (p.1, p.2) (unsettled_at g.N.PageSource.view c.args.nand c.args.geometry.now c.args.stale c.in_err-device.field-0.0 c.in_err-device.ensures.fault)

pub returns-in-Err : goal.returns-in-Err
returns-in-Err g c =
    let s = g.N.PageSource in
    let first = c.in_ok-device.ensures in
    let its = brought s.view c.args.nand c.args.geometry.now c.args.stale c.in_ok-device.device first.begun first.geometry first.capacity first.array first.reads in
    let then = c.flush.ensures in
    record {
      back = tt;
      array = tt;
      flushes = tt;
      fault = record {
        only = c.in-Err.ensures.stops;
        bus = λ h. flushed_bus s.view c.args.nand c.args.geometry.now c.args.stale c.in_ok-device.device c.flush.new.self c.flush.result its then.geometry then.device then.upkeeps
            c.in-Err.fault c.in-Err.ensures.err c.in-Err.ensures.stops h;
        rose = λ is. flushed_rose s.view c.args.nand c.args.geometry.now c.args.stale c.in_ok-device.device c.flush.new.self c.flush.result its then.geometry then.device then.upkeeps
            c.stop-in-Err.result c.stop-in-Err.ensures.nand (err_is c.flush.result c.in-Err.fault c.in-Err.ensures.err is);
        started = mounted_begun s.view c.args.nand c.args.geometry.now c.args.stale c.in_ok-device.device first.begun first.geometry first.capacity first.pages first.reads.honest_is;
      };
      given = flushed_back s.view c.args.nand c.args.geometry.now c.args.stale c.in_ok-device.device c.flush.new.self c.flush.result its then.geometry then.device then.upkeeps
          c.stop-in-Err.result c.stop-in-Err.ensures.nand c.stop-in-Err.ensures.geometry c.requires.same_geometry;
      tried = tried_flush s.view c.args.geometry.now c.args.nand c.stop-in-Err.result c.in_ok-device.device c.flush.new.self c.flush.result first.begun
          (looked_once s.view c.args.geometry.now c.args.nand c.in_ok-device.device.engine.nand first.reads first.most_reads) then.upkeeps c.stop-in-Err.ensures.nand;
    }

pub returns-in-Ok-clause-array : goal.returns-in-Ok-clause-array
returns-in-Ok-clause-array g c =
    let s = g.N.PageSource in
    let first = c.in_ok-device.ensures in
    let its = brought s.view c.args.nand c.args.geometry.now c.args.stale c.in_ok-device.device first.begun first.geometry first.capacity first.array first.reads in
    let then = c.flush.ensures in
    flushed_same s.view c.args.nand c.args.geometry.now c.args.stale c.in_ok-device.device c.flush.new.self c.flush.result its then.geometry then.device then.upkeeps
    c.stop.result c.stop.ensures.nand c.in-Ok.ensures.ok

pub returns-in-Ok-clause-flushes : goal.returns-in-Ok-clause-flushes
returns-in-Ok-clause-flushes g c =
    let s = g.N.PageSource in
    let first = c.in_ok-device.ensures in
    record {
      larger = c.in_ok-device.device;
      begun = first.begun;
      sized = first.geometry;
      entries_are = first.capacity;
      looked = looked_once s.view c.args.geometry.now c.args.nand c.in_ok-device.device.engine.nand first.reads first.most_reads;
      pages = first.pages;
      answer = c.flush.result;
      ends = c.in-Ok.ensures.ends;
      left = c.flush.new.self;
      upkeeps = c.flush.ensures.upkeeps;
      given_is = c.stop.ensures.nand;
    }

pub returns-in_err-device-clause-tried : goal.returns-in_err-device-clause-tried
returns-in_err-device-clause-tried g c =
    let p = err_from_is_err_and c.from_residual.result c.from_residual.ensures.1 in
    let first = c.in_err-device.ensures in
    rw (p.1, p.2) (inl (looked_once g.N.PageSource.view c.args.geometry.now c.args.nand (unpowered_nand c.in_err-device.field-0.0) first.given first.most_given))
