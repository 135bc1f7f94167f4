use Rattle.pylock_program.proofs.reply.texts.push_admits.Goals as goal

pub returns-in-Err-NumberTooLarge : goal.returns-in-Err-NumberTooLarge
returns-in-Err-NumberTooLarge c =
    let refused = rw c.in-Err-NumberTooLarge.field-0-is at c.in-Err-NumberTooLarge.ensures.exact in
    rw (refused (λ memory. absurd cc)) c.push_word_refused-in-Err-NumberTooLarge.ensures
