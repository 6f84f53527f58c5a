use Rattle.std.proofs.Common.{◌≡◌, ◌∙◌, ◌+◌, List, ℕ, length, ap, sym, arith, refl}
use Rattle.std.specs.Prelude.{slice_range}
use Rattle.noisy_bus.specs.Bus.{BusState}
use Rattle.noisy_bus.proofs.HeldLemmas.{held_size, put_out, still_held}
use Rattle.noisy_bus.proofs.bus.NoisyBusBus.data_out.Goals as goal

pub returns-clause-called : goal.returns-clause-called
returns-clause-called g c =
    let bus = c.self.inside in
    let n = length c.args.bytes.now in
    let inv = c.self.invariant in
    let size = held_size bus.register.items bus.first bus.end inv.4 in
    rw (← c.self.view_is) (record {
      answers = (
        omega (arith, size, c.if-bytes-self.false),
        c.copy_from_slice.ensures.after ∙ (ap (λ (l : List ℕ). slice_range l bus.first (bus.first + n)) c.deref.ensures.value ∙ put_out bus.register.items bus.first bus.end n (omega (arith, c.if-bytes-self.false))),
        ap (λ held. record { nand = bus.nand; geometry = bus.geometry; stage = bus.stage; held = held; status = bus.status }) (still_held bus.register.items bus.first bus.end n (omega (arith, c.if-bytes-self.false))),
      );
      stays = record { keeps = refl; geometry = refl; same = refl; of = inv.0; faults = omega arith };
    })
