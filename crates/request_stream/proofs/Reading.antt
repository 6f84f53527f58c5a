-- A header that was read, and then its body.
use Rattle.std.proofs.Common.{◌≡◌, ◌≢◌, ◌<◌, ◌^◌, ℕ, List, [], ◌++◌, Option, Result, Ok, Err, length, refl, sym, subst, ap, arith, inr}
use Rattle.std.proofs.Common.{length-append, ◌≤◌, take, length-take-le}
use Rattle.std.specs.Io.KnownBytes.{Consumes}
use Rattle.std.proofs.KnownBytes.{Consumes-trans}
use Rattle.promises.specs.Stream.{Request, IsRequest, header_bytes, request_bytes, body_length}
use Rattle.promises.specs.declared.stream.Op.{Op}
use Rattle.promises.specs.declared.stream.Op.TheVariants.{Read, Write, Trim, Flush, Turn}
use Rattle.promises.specs.declared.stream.End.{End}
use Rattle.promises.specs.declared.stream.End.TheVariants.{Unfinished}
use Rattle.request_stream.specs.Frames.{Rests, ReadsAfterHeader, ReadsRequest, body_in_buffer, request_at}
use Rattle.request_stream.specs.declared.header.Header.{Header}
use Rattle.request_stream.specs.declared.reply.ServeFault.{ServeFault}
use Rattle.request_stream.specs.declared.request.Next.{Next}
use Rattle.request_stream.specs.declared.request.Next.TheVariants as next

by_op : (op : Op) (buffer : List ℕ) → length (body_in_buffer op buffer) ≡ body_length (length buffer) op
by_op Read buffer = refl
by_op Write buffer = refl
by_op Trim buffer = refl
by_op Flush buffer = refl
by_op Turn buffer = refl

is_request_at : (h : Header) (buffer : List ℕ) → h.tag < 2 ^ 32 → h.sector < 2 ^ 32 → IsRequest (length buffer) (request_at h buffer)
is_request_at h buffer tag sector = record { body = by_op h.op buffer; tag = tag; sector = sector }

-- a header, and a part of its body
begun : (h : Header) (part : List ℕ) → Request
begun h part = record { op = h.op; tag = h.tag; sector = h.sector; body = part }

-- the header's bytes, and then what was read of the body
pub after_header : (h : Header) (u m v : Option (List ℕ)) (buffer bytes : List ℕ) (r : Result Next ServeFault)
    → h.tag < 2 ^ 32 → h.sector < 2 ^ 32 → length bytes ≡ 12 → bytes ≡ header_bytes (request_at h []) → Consumes u m bytes → ReadsAfterHeader (length buffer) h m v buffer r → ReadsRequest (length buffer) u v buffer r
unfolding begun
after_header h u m v buffer bytes (Ok (next.Whole k)) tag sector twelve spelled first (same, body) =
    let whole : Consumes u v (request_bytes (request_at h buffer)) = subst (λ l. Consumes u v (l ++ body_in_buffer h.op buffer)) spelled (Consumes-trans u m v bytes _ first body) in
    subst (λ (x : Header). IsRequest (length buffer) (request_at x buffer) × Consumes u v (request_bytes (request_at x buffer))) (sym same) (is_request_at h buffer tag sector, whole)
after_header h u m v buffer bytes (Ok (next.Ended e)) tag sector twelve spelled first (same, ended, part, short, body) =
    let long : 0 < length (bytes ++ part) = omega (arith, length-append bytes part) in
    let rests : Rests (length buffer) Unfinished (bytes ++ part) v = ((long, inr (begun h part, short, ap (λ l. l ++ part) spelled)), ended) in
    (bytes ++ part, subst (λ (k : End). Rests (length buffer) k (bytes ++ part) v) (sym same) rests, Consumes-trans u m v bytes part first body)
after_header h u m v buffer bytes (Err e) tag sector twelve spelled first (same, part, short, body) =
    (same, bytes ++ part, inr (begun h part, short, ap (λ l. l ++ part) spelled), Consumes-trans u m v bytes part first body)

-- fewer bytes than a header's were read
pub short_part : (n : ℕ) (buffer : List ℕ) → n ≤ length buffer → n < 12 → length (take n buffer) < 12
short_part n buffer within less = omega (arith, length-take-le n buffer within)

pub some_part : (n : ℕ) (buffer : List ℕ) → n ≤ length buffer → n ≢ 0 → 0 < length (take n buffer)
some_part n buffer within some = omega (arith, length-take-le n buffer within)

-- nothing follows the header of what is no write
pub none_follows : (op : Op) (buffer : List ℕ) → op ≢ Write → body_in_buffer op buffer ≡ []
none_follows Read buffer other = refl
none_follows Write buffer other = absurd (other refl)
none_follows Trim buffer other = refl
none_follows Flush buffer other = refl
none_follows Turn buffer other = refl
