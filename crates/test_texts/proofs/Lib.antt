mod TreeLemmas
