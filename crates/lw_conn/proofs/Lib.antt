mod LiveLaws
