mod PortionLemmas
