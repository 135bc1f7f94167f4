mod FactLemmas
