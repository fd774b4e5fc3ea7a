use Rattle.draw.proofs.run_drawing.say_wrong.Goals as goal

pub returns : goal.returns
returns c = rw c.in-Some.is (c.in_ok-sentence.sentence, c.in_ok-push.ensures.items)
