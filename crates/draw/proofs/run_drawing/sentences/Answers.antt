use Rattle.std.proofs.Common.{◌≡◌, ◌∙◌, ap, List, [], ◌∷◌, ◌++◌, String}
use Rattle.std.specs.declared.alloc.Global.{Global}
use Rattle.draw.proofs.run_drawing.sentences.Goals as goal

pub returns : goal.returns
returns c =
    let rule = c.in_ok-sentence.sentence in
    let alone : c.push.new.self.items ≡ rule ∷ [] = c.in_ok-push.ensures.items ∙ ap (λ (said : List (String Global)). said ++ (rule ∷ [])) c.new-said.ensures.items in
    record {
      rule = rule;
      before_wrong = c.say_reply.new.said.items;
      says_reply = rw alone at c.in_ok-say_reply.ensures;
      says_wrong = c.in_ok-say_wrong.ensures;
    }
