-- What is said of a line, one after another.
use Rattle.std.proofs.Common.{◌≡◌, ◌∙◌, ℕ, List, [], ◌∷◌, ◌++◌, sym, ap, subst}
use Rattle.std.specs.Prelude.{Option, Result, Ok, Err, OnOk, ⊤, map}
use Rattle.std.specs.Io.KnownBytes.{Appends}
use Rattle.std.proofs.lemmas.Grind.{flat_map-append}
use Rattle.std.proofs.lemmas.List.{map-append}
use Rattle.scripts.specs.Lines.{newline}
use Rattle.scripts.specs.Turns.{text_of}
use Rattle.scripts.proofs.Bytes.{Appends-none, Appends-more}
use Rattle.replay.specs.Printed.{SaysOf, SaysSomeOf, about}

pub says_none : (line : ℕ) (u : Option (List ℕ)) → SaysOf line u u
says_none line u = record { said = []; written = Appends-none u }

one_said : (line : ℕ) (text : List ℕ) (u v : Option (List ℕ)) → Appends u v (text_of (about line text ∷ [])) → SaysOf line u v
one_said line text u v written = record { said = text ∷ []; written = written }

-- one thing is said, where that goes well
pub says_one : {E : Type 0} (r : Result ⊤ E) (line : ℕ) (text : List ℕ) (u v : Option (List ℕ)) → OnOk r (Appends u v (text_of (about line text ∷ []))) → OnOk r (SaysOf line u v)
says_one (Ok done) line text u v written = one_said line text u v written
says_one (Err e) line text u v written = tt

texts_more : (line : ℕ) (a b : List (List ℕ)) → text_of (map (about line) a) ++ text_of (map (about line) b) ≡ text_of (map (about line) (a ++ b))
texts_more line a b =
    sym (flat_map-append (λ l. l ++ newline ∷ []) (map (about line) a) (map (about line) b))
    ∙ ap text_of (sym (map-append (about line) a b))

pub says_more : (line : ℕ) (u v w : Option (List ℕ)) → SaysOf line u v → SaysOf line v w → SaysOf line u w
says_more line u v w one two = record {
  said = one.said ++ two.said;
  written = subst (λ text. Appends u w text) (texts_more line one.said two.said) (Appends-more u v w _ _ one.written two.written);
}

-- something was said, and then more
some_more : (line : ℕ) (u v w : Option (List ℕ)) → SaysSomeOf line u v → SaysOf line v w → SaysSomeOf line u w
some_more line u v w one two = record {
  first = one.first;
  more = one.more ++ two.said;
  written = subst (λ text. Appends u w text) (texts_more line (one.first ∷ one.more) two.said) (Appends-more u v w _ _ one.written two.written);
}

-- the first thing is said, and then more, where that goes well
pub deed_said : {E : Type 0} (r : Result ⊤ E) (line : ℕ) (text : List ℕ) (u v w : Option (List ℕ)) → Appends u v (text_of (about line text ∷ [])) → OnOk r (SaysOf line v w) → OnOk r (SaysSomeOf line u w)
deed_said (Ok done) line text u v w first more = some_more line u v w (record { first = text; more = []; written = first }) more
deed_said (Err e) line text u v w first more = tt

-- all is said of a line that isn't legal, where that goes well
pub all_said : {E : Type 0} (r : Result ⊤ E) (line : ℕ) (rule : List ℕ) (a b c d e : Option (List ℕ)) → SaysSomeOf line a b → Appends b c (text_of (about line rule ∷ [])) → SaysOf line c d → OnOk r (SaysOf line d e) → OnOk r (SaysSomeOf line a e)
all_said (Err f) line rule a b c d e deed ruled expected wrong = tt
all_said (Ok done) line rule a b c d e deed ruled expected wrong =
    some_more line a d e (some_more line a c d (some_more line a b c deed (one_said line rule b c ruled)) expected) wrong
