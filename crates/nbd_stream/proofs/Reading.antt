-- A header that was read, and then its body.
use Rattle.std.proofs.Common.{◌≡◌, ◌<◌, ◌≤◌, ◌==◌, ℕ, true, false, List, [], ◌++◌, Option, Result, Ok, Err, length, take, sym, subst, ap, ◌∙◌, arith, inl, inr}
use Rattle.std.proofs.Common.{length-append, append-nil}
use Rattle.std.specs.Io.KnownBytes.{Consumes}
use Rattle.std.proofs.KnownBytes.{Consumes-trans}
use Rattle.request_stream.specs.declared.reply.ServeFault.{ServeFault}
use Rattle.nbd_stream.specs.Frames.{IsHeader, IsNbdRequest, SpellsHeader, TransmissionRests, ReadsRest, ReadsNbdRequest, request_with_body, nbd_request_bytes, nbd_header_bytes, begins_with_magic, is_end}
use Rattle.nbd_stream.specs.declared.request.NbdHeader.{NbdHeader}
use Rattle.nbd_stream.specs.declared.request.StreamEnd.{StreamEnd}
use Rattle.nbd_stream.specs.declared.request.StreamEnd.TheVariants.{Unfinished, Disconnected}
use Rattle.nbd_stream.specs.declared.request.NextRequest.{NextRequest}
use Rattle.nbd_stream.specs.declared.request.NextRequest.TheVariants as next

pub header_is : (h : NbdHeader) (bytes body : List ℕ) → SpellsHeader bytes h → (h.code == 2) ≡ false → IsHeader (request_with_body h body)
header_is h bytes body spells on = record { flags = spells.flags; code = spells.code; cookie = spells.cookie; offset = spells.offset; count = spells.count; goes_on = on }

-- a header whose command ends the transmission
with_code : NbdHeader → ℕ → List ℕ
with_code h code = nbd_header_bytes (record { flags = h.flags; code = code; cookie = h.cookie; offset = h.offset; count = h.count; body = [] })

pub ends_so : (h : NbdHeader) (bytes : List ℕ) → SpellsHeader bytes h → h.code ≡ 2 → is_end bytes ≡ true
unfolding with_code
ends_so h bytes spells is = ap is_end (spells.whole ∙ ap (with_code h) is)

-- the header's bytes, and then what was read of the body
pub after_header : (h : NbdHeader) (u m v : Option (List ℕ)) (buffer bytes : List ℕ) (r : Result NextRequest ServeFault)
    → length bytes ≡ 28 → SpellsHeader bytes h → Consumes u m bytes → ReadsRest h m v buffer r → ReadsNbdRequest u v buffer r
after_header h u m v buffer bytes (Ok (next.Whole k)) long spells first (same, on, (body, size, more, kept)) =
    let whole : Consumes u v (nbd_request_bytes (request_with_body h body)) = subst (λ (l : List ℕ). Consumes u v (l ++ body)) spells.whole (Consumes-trans u m v bytes body first more) in
    let is : IsNbdRequest (request_with_body h body) = record { header = header_is h bytes body spells on; body = size } in
    let stands : length body ≤ length buffer → body ≡ take (length body) buffer = λ fits. subst (λ n. body ≡ take n buffer) (sym size) (kept (subst (λ n. n ≤ length buffer) size fits)) in
    subst (λ (x : NbdHeader). ReadsNbdRequest u v buffer (Ok (next.Whole x))) (sym same) (body, is, whole, stands)
after_header h u m v buffer bytes (Ok (next.Ended e)) long spells first (inl (is, code, none)) =
    let rests : TransmissionRests Disconnected bytes v = (long, ap begins_with_magic spells.whole, ends_so h bytes spells code) in
    subst (λ (x : StreamEnd). ReadsNbdRequest u v buffer (Ok (next.Ended x))) (sym is) (bytes, rests, subst (Consumes u v) (append-nil bytes) (Consumes-trans u m v bytes [] first none))
after_header h u m v buffer bytes (Ok (next.Ended e)) long spells first (inr (is, on, (part, short, more, ended))) =
    let some : 0 < length (bytes ++ part) = omega (arith, length-append bytes part) in
    let rests : TransmissionRests Unfinished (bytes ++ part) v = ((some, inr (request_with_body h part, header_is h bytes part spells on, short, ap (λ l. l ++ part) spells.whole)), ended) in
    subst (λ (x : StreamEnd). ReadsNbdRequest u v buffer (Ok (next.Ended x))) (sym is) (bytes ++ part, rests, Consumes-trans u m v bytes part first more)
after_header h u m v buffer bytes (Err e) long spells first (on, (is, part, short, more)) =
    (is, bytes ++ part, inr (request_with_body h part, header_is h bytes part spells on, short, ap (λ l. l ++ part) spells.whole), Consumes-trans u m v bytes part first more)
