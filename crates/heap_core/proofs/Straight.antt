-- A client's calls are lines, where the core stands for a sound heap.
use Rattle.std.proofs.Common.{◌<◌, ℕ, List, ◌∷◌, length, sym, ap, ◌∙◌, arith}
use Rattle.std.proofs.lemmas.Option.{same_Some}
use Rattle.heap_spec.specs.declared.event.Event.{Event}
use Rattle.heap_spec.specs.declared.reply.Reply.{Reply}
use Rattle.heap_spec.specs.Heap.{Heap, Object, HasObject}
use Rattle.heap_spec.specs.Runs.{Told, heap_after}
use Rattle.heap_spec.specs.Transcripts.{LegalTranscript}
use Rattle.heap_spec.proofs.Objects.{object_lies}
use Rattle.block_map.specs.declared.found.Found.{Found}
use Rattle.heap_core.specs.Acts.{IsAct}
use Rattle.heap_core.specs.CoreContents.{CoreContents}
use Rattle.heap_core.specs.Following.{AreLines}
use Rattle.heap_core.specs.Held.{IsSoundCore, NamesInRange}
use Rattle.heap_core.specs.Standing.{StandsFor, objects_of}
use Rattle.heap_core.proofs.Acting.{counted_act_line}
use Rattle.heap_core.proofs.Following.{CountsObjects}
use Rattle.heap_core.proofs.Held.{acts_sound}

-- two heaps for which one core stands have objects of one length at one base
has_words : (c : CoreContents) → IsSoundCore c → (s : Heap) → StandsFor c s → (base : ℕ) (o : Object) → HasObject s base o → 0 < length o.words
has_words c sound s stands base o has =
    let only = stands.store.shows.shown.only base o has in
    let found : Found = only.0 in
    let there = ap (objects_of c) only.2 ∙ only.1 in
    let kept = stands.store.shows.shown.kept found there in
    let other = sound.1.store.shows.shown.kept found there in
    let same = ap (λ (p : Object). length p.words) (same_Some kept.0 o (sym kept.1 ∙ ap s.objects only.2 ∙ has)) in
    let size = kept.2.size in
    let size' = other.2.size in
    let some = (object_lies sound.0 sound.2 found.base other.0 other.1).some in
    omega (arith, same, size, size', some)

sound_counts : (c : CoreContents) → IsSoundCore c → CountsObjects c
sound_counts c sound start run follows = record {
  some = has_words c sound (heap_after start run) follows.stands;
  born = λ b p has. (follows.stands.store.shows.born b p has).1;
}

pub calls_lines : (old mid new : CoreContents) (event : Event) (reply : Reply) (lines : List Told) → IsSoundCore old → NamesInRange event → IsAct old event reply mid
    → (IsSoundCore mid → AreLines mid lines new) → AreLines old (record { event = event; reply = reply } ∷ lines) new
calls_lines old mid new event reply lines sound range act rest start run follows =
    let first = counted_act_line old mid event reply (sound_counts old sound) act start run follows in
    let last = rest (acts_sound old mid event reply sound range act) start first.0 first.2 in
    (last.0, LegalTranscript.on first.1 last.1, last.2)
