use Rattle.std.proofs.Common.{◌≡◌, ◌∙◌, ◌+◌, ◌-◌, ◌++◌, List, ℕ, ◌≤◌, length, take, drop, ap, sym, arith, refl}
use Rattle.std.specs.Prelude.{slice_range}
use Rattle.std.proofs.lemmas.List.{take_at}
use borrow.Rule.Slice.PartMut.{post_of}
use Rattle.noisy_bus.specs.Bus.{BusState}
use Rattle.noisy_bus.proofs.HeldLemmas.{more_held, part_size}
use Rattle.noisy_bus.proofs.bus.NoisyBusBus.data_in.Goals as goal

pub returns-clause-called : goal.returns-clause-called
returns-clause-called g c =
    let bus = c.self.inside in
    let inv = c.self.invariant in
    let bytes : List ℕ = c.args.bytes.now in
    let old : List ℕ = c.deref_mut.result.now in
    let none : bus.first ≡ 0 = omega (arith, c.if-self-ne0.false) in
    let rest : List ℕ = post_of bus.end (bus.end + length bytes - bus.end) old in
    let put : take bus.end old ++ (c.copy_from_slice.new.self ++ rest) ≡ take bus.end bus.register.items ++ (bytes ++ rest) =
    ap (λ (l : List ℕ). take bus.end l ++ (c.copy_from_slice.new.self ++ rest)) c.deref_mut.ensures.value ∙ ap (λ (l : List ℕ). take bus.end bus.register.items ++ (l ++ rest)) c.copy_from_slice.ensures.after in
    let part : List ℕ = take bus.end old ++ (c.copy_from_slice.new.self ++ rest) in
    let new_size : length c.copy_from_slice.new.self ≡ length bytes = ap length c.copy_from_slice.ensures.after in
    let within : bus.end + length bytes ≤ length old = omega (arith, c.if-bytes-len.false, c.len.ensures, inv.4, ap length c.deref_mut.ensures.value) in
    let size : length part ≡ bus.register.len = part_size old c.copy_from_slice.new.self bus.end (length bytes) within new_size ∙ c.deref_mut.ensures.len in
    let back : take bus.register.len (part ++ drop (length part) bus.register.items) ≡ part = take_at part (drop (length part) bus.register.items) bus.register.len size in
    rw (← c.self.view_is) (record {
      answers = (
        refl,
        ap (λ held. record { nand = bus.nand; geometry = bus.geometry; stage = bus.stage; held = held; status = bus.status })
            (ap (λ (l : List ℕ). slice_range l bus.first (bus.end + length bytes)) (back ∙ put) ∙ more_held bus.register.items bytes rest bus.first bus.end none inv.4),
      );
      stays = record { keeps = refl; geometry = refl; same = refl; of = inv.0; faults = omega arith };
    })
