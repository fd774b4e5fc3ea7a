use Rattle.std.proofs.Common.{◌≡◌, ℕ, ◌+◌, ◌*◌, ◌<◌, ◌≤◌, List, [], ◌∷◌, ◌++◌, length, take, map, get_or, sym, ap, ◌∙◌, arith, append_assoc, length-append}
use Rattle.std.specs.Prelude.{decimal}
use Rattle.std.specs.List.{join_with_byte}
use Rattle.std.proofs.lemmas.List.{map_push, take_more}
use Rattle.workloads.proofs.Joins.{join-push}
use Rattle.workloads.proofs.written_commands.put_words.Goals as goal

-- one number more
one_more : (front word text spaced digits new : List ℕ) (numbers : List ℕ) (i : ℕ) → i < length numbers → text ≡ front ++ join_with_byte 32 (word ∷ map decimal (take i numbers)) → spaced ≡ text ++ 32 ∷ []
    → digits ≡ decimal (get_or numbers i 0) → new ≡ spaced ++ digits → new ≡ front ++ join_with_byte 32 (word ∷ map decimal (take (i + 1) numbers))
one_more front word text spaced digits new numbers i lt is isp isd isn =
    let done = join_with_byte 32 (word ∷ map decimal (take i numbers)) in
    let next = decimal (get_or numbers i 0) in
    let joined : join_with_byte 32 (word ∷ map decimal (take (i + 1) numbers)) ≡ done ++ 32 ∷ next =
    ap (λ ns. join_with_byte 32 (word ∷ map decimal ns)) (take_more numbers i 0 lt) ∙ ap (λ ws. join_with_byte 32 (word ∷ ws)) (map_push decimal (take i numbers) (get_or numbers i 0)) ∙ join-push 32 word (map decimal (take i numbers)) next in
    isn ∙ ap (λ t. t ++ digits) (isp ∙ ap (λ t. t ++ 32 ∷ []) is) ∙ ap (λ t. ((front ++ done) ++ 32 ∷ []) ++ t) isd
    ∙ append_assoc (front ++ done) (32 ∷ []) next ∙ append_assoc front done (32 ∷ next) ∙ ap (λ t. front ++ t) (sym joined)

-- its room
room_more : (text spaced digits new : List ℕ) (a i : ℕ) → spaced ≡ text ++ 32 ∷ [] → new ≡ spaced ++ digits → length digits ≤ 20 → length text ≤ a + 21 * i → length new ≤ a + 21 * (i + 1)
room_more text spaced digits new a i isp isn fits room =
    let e1 : length spaced ≡ length text + 1 = ap length isp ∙ length-append text (32 ∷ []) in
    let e2 : length new ≡ length spaced + length digits = ap length isn ∙ length-append spaced digits in
    omega arith

pub loop-number-preserved : goal.loop-number-preserved
unfolding lib.Utf8.encode
loop-number-preserved c = record {
  text = one_more c.args.line.now.bytes c.args.word.now _ _ c.format.result.now _ c.args.numbers.now c.loop-number.number-index c.loop-number-test.true c.loop-number.invariant.text c.push.ensures.bytes c.format.ensures.text c.push_str-in-loop-number.ensures.bytes;
  room = room_more c.loop-number.line.bytes _ c.format.result.now _ _ c.loop-number.number-index c.push.ensures.bytes c.push_str-in-loop-number.ensures.bytes c.format.ensures.fits c.loop-number.invariant.room;
}
