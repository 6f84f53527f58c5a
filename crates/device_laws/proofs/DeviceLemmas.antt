-- What a turn, a read and a flush say, each by the fields of its definition.
use Rattle.std.proofs.Common.{◌≡◌, Option, MatchOption, inl, inr, refl, sym, subst, arith}
use Rattle.collection.specs.declared.engine.Pinned.{Pinned}
use Rattle.collection.specs.Collect.{HasAiling, HasNoneAiling}
use Rattle.collection.specs.declared.engine.room.Reserve.TheVariants as reserve
use Rattle.collection.specs.Room.{IsWorth, wanted}
use Rattle.allocation.specs.State.{State}
use Rattle.ftl_device.specs.declared.fault.DeviceFault.TheVariants.{OutOfRange, ReadOnly, SequenceSpent, OutOfMemory, Damaged, BusFault}
use Rattle.device_laws.specs.Turns.{TurnGoesOnLaw, BeginsLaw, RescueFirstLaw}
use Rattle.device_laws.specs.Reads.{KeepsRowsLaw, RefusedReadLaw, ReadFaultsLaw}
use Rattle.device_laws.specs.Flushes.{NoneStaleLaw, NoTableOldLaw, OneFailureLaw, ShownShortLaw, CallFailuresLaw}

pub goes_on : TurnGoesOnLaw
goes_on old new pinned on some =
    let P : Option Pinned → Type 0 = λ o. MatchOption o (IsWorth (wanted reserve.Turn old) old on.block.block × (on.block.first ≡ 0)) (λ p. p ≡ on.block) in
    sym (subst P some on.which)

pub begins : BeginsLaw
begins old new on none =
    let P : Option Pinned → Type 0 = λ o. MatchOption o (IsWorth (wanted reserve.Turn old) old on.block.block × (on.block.first ≡ 0)) (λ p. p ≡ on.block) in
    let h : IsWorth (wanted reserve.Turn old) old on.block.block × (on.block.first ≡ 0) = subst P none on.which in
    (h.0.scarce, h.1, h.0.victim.closed, h.0.small)

none_ails : (s : State) → HasNoneAiling s → HasAiling s → ⊥
none_ails s none some =
    let is = some.1 in
    let zero = none some.0 is.within is.bad in
    omega (arith, zero, is.some)

pub rescue_first : RescueFirstLaw
rescue_first old new (inl rests) ails = inl rests.0
rescue_first old new (inr (inl rescued)) ails = inr rescued.1
rescue_first old new (inr (inr on)) ails = absurd (none_ails old.blocks on.0 ails)

pub keeps_rows : KeepsRowsLaw
keeps_rows n sector old new p q bytes read = read.mapping.lacking sector

pub refused_read : RefusedReadLaw
refused_read n OutOfRange old new p q bytes other left = left
refused_read n (ReadOnly good wanted failed) old new p q bytes other left = left
refused_read n SequenceSpent old new p q bytes other left = left
refused_read n OutOfMemory old new p q bytes other left = left
refused_read n Damaged old new p q bytes other left = left
refused_read n BusFault old new p q bytes other left = absurd (other refl)

pub read_faults : ReadFaultsLaw
read_faults OutOfRange is = inl refl
read_faults (ReadOnly good wanted failed) is = absurd is
read_faults SequenceSpent is = absurd is
read_faults OutOfMemory is = absurd is
read_faults Damaged is = inr (inl refl)
read_faults BusFault is = inr (inr refl)

pub none_stale : NoneStaleLaw
none_stale first log image out = out.fresh

pub no_table_old : NoTableOldLaw
no_table_old first log image u out two = out.renewed two u

pub one_failure : OneFailureLaw
one_failure command g share bad before call ro few (inl short) = short
one_failure command g share bad before call ro few (inr flushed) = absurd (omega (arith, few, flushed.1))

pub shown_short : ShownShortLaw
shown_short g share bad next before call ro image good wanted failed shown = shown.1

pub call_failures : CallFailuresLaw
call_failures g share bad next before call ro image good wanted failed shown = shown.0.failed_is
