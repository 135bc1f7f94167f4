use Rattle.pylock_documents.proofs.RefusalLemmas.{no_others, words_stand}
use Rattle.pylock_documents.proofs.laws.refusals_have_their_words.Goals as goal

pub returns-clause-words : goal.returns-clause-words
returns-clause-words c = words_stand

pub returns-clause-others : goal.returns-clause-others
returns-clause-others c = no_others
