-- Outlet entries as numbers of 40 bits, each way.
-- Assumes nothing.
use Rattle.std.proofs.Common.{◌≡◌, ℕ, ◌/◌, ◌%◌, ◌^◌, ◌<◌, [], ◌∷◌, Ok, ap, arith}
use mathlib.Core.HLevel.{is_prop→PathP}
use native.Mathlib.Bridge.{le_prop}
use Rattle.formats.specs.declared.entry.SentEntry.{SentEntry}
use Rattle.formats.specs.Belows.{channel_of}
use Rattle.formats.specs.Sents.{sent_code, sent_of, code_sent, sent_bytes}
use Rattle.formats.proofs.Belows.{same_value}
use Rattle.formats.specs.Bytes.{bytes_of, spelled}
use Rattle.formats.proofs.Bytes.{low_bytes, low_five}

-- two entries with the same channel and word are the same
pub same_sent : (e f : SentEntry) → e.channel ≡ f.channel → e.word ≡ f.word → e ≡ f
same_sent e f p q = λ k. record {
  channel = p k;
  word = q k;
  fits = is_prop→PathP (λ k. q k < 4294967296) (λ k. le_prop) e.fits f.fits k;
}

-- an entry has 40 bits
pub code_fits : (e : SentEntry) → sent_code e < 256 ^ 5
code_fits e = omega (arith, e.fits, e.channel.fits)

-- unpacking an entry's number gives the entry
pub code_again : (e : SentEntry) → code_sent (sent_code e) ≡ Ok e
code_again e =
    let channel : channel_of (sent_code e / 4294967296) ≡ e.channel = same_value _ _ _ (omega (arith, e.fits, e.channel.fits)) in
    ap Ok (same_sent _ _ channel (omega (arith, e.fits, e.channel.fits)))

-- packing what a number unpacks to gives the number
pub code_back : (n : ℕ) (e : SentEntry) → n < 256 ^ 5 → code_sent n ≡ Ok e → sent_code e ≡ n
code_back n e h is =
    let it : sent_of n ≡ e = cc in
    rw (← it) (omega arith)

-- no more than the lowest five bytes of a number say which entry it is
pub low_sent : (n : ℕ) → sent_of (spelled (bytes_of 5 n)) ≡ sent_of n
low_sent n =
    let low = low_five n in
    same_sent (sent_of (spelled (bytes_of 5 n))) (sent_of n) (same_value 256 (channel_of (spelled (bytes_of 5 n) / 4294967296)) (channel_of (n / 4294967296)) (omega (arith, low)))
    (omega (arith, low))

-- the channel and the bytes of the word are the entry's bytes
pub bytes_written : (e : SentEntry) (channel : ℕ) → channel ≡ e.channel.value → channel ∷ (e.word / 16777216 % 256) ∷ (e.word / 65536 % 256) ∷ (e.word / 256 % 256) ∷ (e.word % 256) ∷ [] ≡ sent_bytes e
bytes_written e channel is =
    let n = sent_code e in
    let f = e.channel.fits in
    let g = e.fits in
    let a : channel ≡ n / 4294967296 % 256 = omega arith in
    let b : e.word / 16777216 % 256 ≡ n / 16777216 % 256 = omega arith in
    let c : e.word / 65536 % 256 ≡ n / 65536 % 256 = omega arith in
    let d : e.word / 256 % 256 ≡ n / 256 % 256 = omega arith in
    let l : e.word % 256 ≡ n % 256 = omega arith in
    cc (low_bytes n)
